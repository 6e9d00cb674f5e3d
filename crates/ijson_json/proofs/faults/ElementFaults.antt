-- Lemmas: a fault in or after an element is a fault of the array or object.
use Rattle.std.proofs.Common.{◌≡◌, ℕ, ◌+◌, List, [], ◌∷◌, ◌++◌, length, refl, sym, ap, subst, ◌∙◌, append_assoc, arith, inl, inr}
use Rattle.std.specs.Prelude.{◌⊎◌, Result, Ok, Err, MatchResult, IfErr}
use Rattle.std.proofs.lemmas.List.{length-append}
use Rattle.ijson_json.specs.Grammar.{Spaced, IsValue}
use Rattle.ijson_json.specs.Limits.{max_depth}
use Rattle.ijson_json.specs.private.Contexts.{StartsAs, Context, ValueContext}
use Rattle.ijson_json.specs.private.Explains.{Explains, RejectsBy}
use Rattle.ijson_json.specs.private.Delimiters.{NoDelimiter}
use Rattle.ijson_json.specs.private.Reading.{Front, IsStuck}
use Rattle.ijson_json.specs.declared.fault.Fault.{Fault}
use Rattle.ijson_json.specs.declared.fault.Fault.TheVariants as faults
use Rattle.ijson_json.proofs.scanning.Prefixes.{all-append}
use Rattle.ijson_json.proofs.grammar.CommaLists.{Shape}
use Rattle.ijson_json.proofs.reading.ElementLists.{ElementRead}
use Rattle.ijson_json.proofs.reading.Elements.{Listing, Reached, reached_stuck}
use Rattle.ijson_json.proofs.faults.Contexts.{built_accepted, element_context, value_pause}
use Rattle.ijson_json.proofs.faults.ScalarFaults.{memory_fault}
use Rattle.ijson_json.proofs.faults.StuckTexts.{MayPause, IsStuckAfter, fault_of, pause_begins, stuck_error}

-- If the maximum number of containers is open, the fault of an opening bracket is `TooDeep`.
pub bracket_too_deep : (opened : ℕ) (text inside : List ℕ) (bracket : ℕ) → text ≡ bracket ∷ inside → (bracket ≡ 91) ⊎ (bracket ≡ 123)
    → opened ≡ max_depth → Explains opened text (faults.TooDeep (length text))
bracket_too_deep opened text inside bracket e opens deep before c memory = record {
  before = before;
  bracket = bracket;
  rest = inside;
  is = ap (λ (l : List ℕ). before ++ l) e;
  at_is = omega (arith, length-append before text);
  begins = pause_begins (value_pause c);
  place = rw deep at c.place;
  opens = opens;
}

module _ {E : Type 0} {S : Shape E} {L : Listing E S} {opened : ℕ} {text cur : List ℕ} {found : List E}
    (r : Reached E S L opened text found cur) where
  -- The part of the text that was read and the unread part `cur` are the whole text.
  whole : (before : List ℕ) → (before ++ r.head) ++ cur ≡ before ++ text
  whole before = append_assoc before r.head cur ∙ ap (λ (l : List ℕ). before ++ l) (sym r.is)

  -- A fault in an element is a fault of the array or object.
  pub element_fault : (fault : Fault)
      → ((before : List ℕ) → Context E (λ e text. S.Is e text) (λ e. S.inner e) L.IsPlace (opened + 1) before cur
      → RejectsBy (before ++ cur) fault)
      → Explains opened text fault
  element_fault fault h before c =
      subst (λ (l : List ℕ). RejectsBy l fault) (whole before) (h (before ++ r.head) (element_context r c))

  module _ {t : E} {after : List ℕ} (d : ElementRead E S (opened + 1) cur t after) {left : List ℕ} (s : IsStuck S.closing after left) where
    abbrev seen : List ℕ
    seen = r.head ++ (d.found.front ++ s.skipped.space)

    seen_text : text ≡ seen ++ left
    seen_text =
        r.is ∙ ap (λ (l : List ℕ). r.head ++ l) (d.found.is ∙ ap (λ (l : List ℕ). d.found.front ++ l) s.skipped.is) ∙ simp append_assoc

    -- A space may follow the last element that was read.
    after_pause : {before : List ℕ} → ValueContext opened before text → MayPause (before ++ seen)
    after_pause {before} c =
        let e = element_context r c in
        let gap = all-append _ s.skipped.space (32 ∷ []) s.skipped.passed (refl, tt) in
        let b = e.builds t (d.found.front ++ (s.skipped.space ++ 32 ∷ []))
        ([], d.found.front, s.skipped.space ++ 32 ∷ [], tt, d.found.holds, gap, refl) in
        let (tree, accepted) = built_accepted b d.deep d.ranged in
        record { more = e.closers; tree = tree; accepted = simp append_assoc (simp append_assoc at accepted) }

    delimiter_fault : Explains opened text (faults.Syntax (length left))
    delimiter_fault before c =
        let is : before ++ text ≡ (before ++ seen) ++ left =
        ap (λ (l : List ℕ). before ++ l) seen_text ∙ sym (append_assoc before seen left) in
        let none : IsStuckAfter (before ++ seen) left = λ u next starts spelled.
        let (v, x, f, stops) = c.only u (seen ++ next) (starts_text next)
        (subst (λ (l : List ℕ). Spaced (λ value. IsValue u value) l) (append_assoc before seen next) spelled) in
        reached_stuck r d s v next x starts (subst (λ (l : List ℕ). Front (λ value. IsValue v value) l x) (simp append_assoc) f) in
        fault_of (before ++ seen) left (length left) is refl (stuck_error (before ++ seen) left is none (after_pause c))
      where
        starts_text : (next : List ℕ) → StartsAs text (seen ++ next)
        starts_text next =
            subst (λ (l : List ℕ). StartsAs l (seen ++ next)) (sym (r.is ∙ ap (λ (l : List ℕ). l ++ cur) r.head_is)) (
              ((r.parts ++ r.space) ++ (d.found.front ++ s.skipped.space)) ++ next,
              ap (λ (l : List ℕ). (l ++ (d.found.front ++ s.skipped.space)) ++ next) r.head_is,
            )

  -- A fault after an element, or a failure to store the element, is a fault of the array or object.
  pub push_fault : {t : E} {after : List ℕ} (fault : Fault) → ElementRead E S (opened + 1) cur t after
      → (fault ≡ faults.Memory) ⊎ NoDelimiter S.closing after fault → Explains opened text fault
  push_fault fault d (inl e) = rw e (λ before c. memory_fault (before ++ text))
  push_fault fault d (inr (left, stuck, e)) = rw e (delimiter_fault d stuck)

-- If reading the delimiter after an element fails, the fault is `Memory` or satisfies
-- `NoDelimiter`.
pub behind_element : {X : Type 0} (closing : ℕ) (after : List ℕ) (r : Result X Fault) (P : X → Type 0)
    → MatchResult r P (λ fault. NoDelimiter closing after fault)
    → IfErr r (λ fault. (fault ≡ faults.Memory) ⊎ NoDelimiter closing after fault)
behind_element closing after (Ok x) P h = tt
behind_element closing after (Err fault) P h = inr h
