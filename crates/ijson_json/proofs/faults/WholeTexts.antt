-- A text whose value was read is accepted if only white space follows, and otherwise has a syntax
-- error after the value. A fault of the value is the error of the text.
use Rattle.std.proofs.Common.{◌≡◌, ℕ, ◌≤◌, true, List, [], ◌∷◌, ◌++◌, length, Result, Ok, Err, refl, sym, ap, subst, ◌∙◌}
use Rattle.std.proofs.Common.{append_assoc, append-nil, arith}
use Rattle.std.specs.Prelude.{IfErr, MatchResult}
use Rattle.std.proofs.lemmas.List.{nil_from_length}
use Rattle.ijson_value.specs.Tree.{Tree, depth}
use Rattle.ijson_value.specs.WellFormed.{IsWellFormed, WellFormed}
use Rattle.ijson_json.specs.Settled.{settled}
use Rattle.ijson_json.specs.Grammar.{is_space, IsSpace, Accepted}
use Rattle.ijson_json.specs.Limits.{max_depth}
use Rattle.ijson_json.specs.Print.{print}
use Rattle.ijson_json.specs.Refuses.{Refuses}
use Rattle.ijson_json.specs.private.Contexts.{StartsAs}
use Rattle.ijson_json.specs.private.Explains.{Explains, Rejects, RejectsBy, Answers}
use Rattle.ijson_json.specs.private.Reading.{Stops, Skips, IsRead}
use Rattle.ijson_json.specs.declared.fault.Fault.{Fault}
use Rattle.ijson_json.specs.declared.fault.Fault.TheVariants as faults
use Rattle.ijson_json.specs.declared.fault.JsonError.{JsonError}
use Rattle.ijson_json.specs.declared.fault.JsonError.TheVariants as errors
use Rattle.ijson_json.proofs.scanning.Prefixes.{run_same, all-append}
use Rattle.ijson_json.proofs.scanning.Starts.{starts_past, starts_ends}
use Rattle.ijson_json.proofs.grammar.CommaLists.{space-Stops, Ends-any}
use Rattle.ijson_json.proofs.grammar.FirstBytes.{value-past_space}
use Rattle.ijson_json.proofs.grammar.OneTree.{value_same, one_tree}
use Rattle.ijson_json.proofs.grammar.TotalReads.{only_memory}
use Rattle.ijson_json.proofs.grammar.PrintedIsAccepted.{printed_is_accepted}
use Rattle.ijson_json.proofs.errors.AllowedErrors.{error_is_allowed}
use Rattle.ijson_json.proofs.faults.Contexts.{text_context}
use Rattle.ijson_json.proofs.faults.StuckTexts.{IsStuckAfter, fault_of, stuck_error}

-- A fault of the value is the error of the whole text.
pub text_fault : (text start : List ℕ) (fault : Fault) → Skips text start → Explains 0 start fault → RejectsBy text fault
text_fault text start fault s h = subst (λ (l : List ℕ). RejectsBy l fault) (sym s.is) (h s.space (text_context text start s))

module _ (text start rest end : List ℕ) (t : Tree) (s : Skips text start) (r : IsRead 0 start t rest) (q : Skips rest end) where
  -- The value of the text, with the white space before and after it.
  abbrev seen : List ℕ
  seen = s.space ++ (r.found.front ++ q.space)

  seen_text : text ≡ seen ++ end
  seen_text =
      s.is ∙ ap (λ (l : List ℕ). s.space ++ l) (r.found.is ∙ ap (λ (l : List ℕ). r.found.front ++ l) q.is) ∙ simp append_assoc

  seen_accepted : (more : List ℕ) → IsSpace more → Accepted (seen ++ more) (settled t)
  seen_accepted more h = (
    depth t,
    omega (arith, r.deep),
    record {
      written = t;
      spelled = (s.space, r.found.front, q.space ++ more, s.passed, r.found.holds, all-append _ q.space more q.passed h, simp append_assoc);
      tree_is = refl;
      deepest_is = refl;
      ranged_is = sym r.ranged;
    },
  )

  -- If only white space follows the value, the text is accepted.
  pub whole : length end ≡ 0 → Accepted text (settled t)
  whole z = subst (λ (l : List ℕ). Accepted l (settled t)) (sym seen_text) (seen_accepted end (rw (nil_from_length end z) tt))

  -- If bytes are left after the value and white space, no JSON text continues after the white space
  -- with the first of these bytes.
  behind_stuck : (length end ≡ 0 → ⊥) → IsStuckAfter seen end
  behind_stuck some u next starts (b, v, a, sb, w, sa, e) =
      let front = r.found.front in
      let tail : List ℕ = q.space ++ next in
      let whole : s.space ++ (front ++ tail) ≡ b ++ (v ++ a) = simp append_assoc at e in
      let start = run_same is_space s.space b (front ++ tail) (v ++ a) s.passed sb (value-past_space t front tail r.found.holds)
      (value-past_space u v a w) whole in
      let stops : Stops a = rw append-nil at (space-Stops a [] sa tt) in
      let same = value_same t u front v tail a r.found.holds w (starts_ends t q.space end next starts (rw q.is at r.ends)) (Ends-any u a stops)
      start.1 in
      let last = run_same is_space q.space a next [] q.passed sa (starts_past is_space end next starts q.past) tt
      (same.1.1 ∙ sym (append-nil a)) in
      go end refl starts last.1
    where
      go : (rest : List ℕ) {next : List ℕ} → end ≡ rest → StartsAs rest next → next ≡ [] → ⊥
      go [] is starts none = some (ap length is)
      go (c ∷ rest) is (more, starts) none = cc

  -- If bytes are left after the value and white space, the text has a syntax error there.
  pub behind : (length end ≡ 0 → ⊥) → RejectsBy text (faults.Syntax (length end))
  behind some = fault_of seen end (length end) seen_text refl
      (stuck_error seen end seen_text (behind_stuck some)
      (record { more = []; tree = settled t; accepted = seen_accepted (32 ∷ []) (refl, tt) }))

-- ---- consequences for the results of reading

-- An error that satisfies `Rejects` satisfies `Refuses`.
rejects_refuses : (text : List ℕ) (error : JsonError) → Rejects text error → Refuses text error
rejects_refuses text errors.Memory h = tt
rejects_refuses text (errors.Syntax at) h = error_is_allowed text (errors.Syntax at) (h (λ e. cc))
rejects_refuses text (errors.TooDeep at) h = error_is_allowed text (errors.TooDeep at) (h (λ e. cc))
rejects_refuses text (errors.NumberRange at) h = error_is_allowed text (errors.NumberRange at) (h (λ e. cc))

pub answers_refused : (text : List ℕ) (result : Result WellFormed JsonError) → Answers text result → IfErr result (λ error. Refuses text error)
answers_refused text (Ok v) h = tt
answers_refused text (Err e) h = rejects_refuses text e h

-- If a text is accepted, a result that satisfies `Answers` is its tree or `Memory`.
pub answers_read : (text : List ℕ) (result : Result WellFormed JsonError) → Answers text result → (t : Tree) → Accepted text t
    → MatchResult result (λ value. value.tree ≡ t) (λ error. error ≡ errors.Memory)
answers_read text (Ok v) h t a = one_tree text v.tree t h.0 a.0 true true h.2 a.2
answers_read text (Err e) h t a = only_memory text e t (rejects_refuses text e h) a

-- If a text is printed from a tree, a result that satisfies `Answers` is that tree or `Memory`.
pub answers_printed : (text : List ℕ) (result : Result WellFormed JsonError) → Answers text result → (t : Tree) → IsWellFormed t
    → depth t ≤ max_depth → text ≡ print t → MatchResult result (λ value. value.tree ≡ t) (λ error. error ≡ errors.Memory)
answers_printed text result h t n d e = answers_read text result h t (rw e (printed_is_accepted t n d))
