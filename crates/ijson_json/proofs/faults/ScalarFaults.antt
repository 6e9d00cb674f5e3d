-- Lemmas: a fault in a value that is not a container is the error of each text with this value.
use Rattle.std.proofs.Common.{◌≡◌, ℕ, ◌≤◌, true, false, List, [], ◌∷◌, ◌++◌, length, refl, sym, ap, ◌∙◌, append_assoc, arith, inl, inr}
use Rattle.std.specs.Prelude.{Result, Ok, Err, nat_lt}
use Rattle.std.specs.Borrow.{Bor}
use Rattle.std.proofs.lemmas.Bool.Decides.{nat_tests}
use Rattle.std.proofs.lemmas.List.{length-append}
use Rattle.ijson_string.specs.Cache.{Texts}
use Rattle.ijson_value.specs.Tree.{string}
use Rattle.ijson_value.specs.WellFormed.{WellFormed}
use Rattle.ijson_json.specs.Strings.{StringBody, unescaped}
use Rattle.ijson_json.specs.Grammar.{IsValue}
use Rattle.ijson_json.specs.Inside.{IsCharacterPlace}
use Rattle.ijson_json.specs.Limits.{max_depth}
use Rattle.ijson_json.specs.private.Contexts.{ValueContext}
use Rattle.ijson_json.specs.private.Explains.{Explains, IsApart, NumberFault, RejectsBy, ScalarFault, StringFault}
use Rattle.ijson_json.specs.private.Reading.{Past}
use Rattle.ijson_json.specs.private.ReadsScalar.{ReadsScalar}
use Rattle.ijson_json.specs.private.ReadsValue.{ReadsValue}
use Rattle.ijson_json.specs.private.StringReading.{ContentStops}
use Rattle.ijson_json.specs.declared.fault.Fault.{Fault}
use Rattle.ijson_json.specs.declared.fault.Fault.TheVariants as faults
use Rattle.ijson_json.specs.declared.read.scratch.Scratch.{Scratch}
use Rattle.ijson_json.proofs.scanning.Prefixes.{past_byte}
use Rattle.ijson_json.proofs.scanning.Starts.{starts_past}
use Rattle.ijson_json.proofs.grammar.FirstBytes.{kind, rank-le, value_first}
use Rattle.ijson_json.proofs.grammar.Insides.{inside_append}
use Rattle.ijson_json.proofs.grammar.SpelledTrees.{spaced}
use Rattle.ijson_json.proofs.reading.StringContent.{body-push}
use Rattle.ijson_json.proofs.reading.Words.{null_word, boolean_word}
use Rattle.ijson_json.proofs.faults.Contexts.{built_accepted, value_pause}
use Rattle.ijson_json.proofs.faults.StringFaults.{content_error}
use Rattle.ijson_json.proofs.faults.StuckTexts.{MayPause, fault_of, pause_begins, stuck_error}
use Rattle.ijson_json.proofs.faults.TokenFaults.{number_fault, word_fault}

-- If the first byte of a text is `b`, the text is `b` and the rest.
pub begins : (b : ℕ) (text : List ℕ) (first : ℕ) (more : List ℕ) → text ≡ first ∷ more → first ≡ b → text ≡ b ∷ more
begins b text first more e f = e ∙ ap (λ (c : ℕ). c ∷ more) f

-- `RejectsBy` holds for the fault `Memory`.
pub memory_fault : (text : List ℕ) → RejectsBy text faults.Memory
memory_fault text memory = absurd (memory refl)

pub out_of_memory : (opened : ℕ) (text : List ℕ) → Explains opened text faults.Memory
out_of_memory opened text before c = memory_fault (before ++ text)

-- ---- a byte that does not begin a value

-- A byte from 128 on does not begin a value.
low_kind : (b : ℕ) → nat_lt b 128 ≡ false → kind b ≡ 6
low_kind b h = grind (arith, nat_tests)

-- If a text is empty or does not begin with an ASCII byte, reading a value fails at the start of
-- the text.
pub no_character : (opened : ℕ) (text : List ℕ) → Past (λ b. nat_lt b 128) text → Explains opened text (faults.Syntax (length text))
no_character opened text p before c =
    fault_of before text (length text) refl refl (stuck_error before text refl (λ t next starts s.
    let (v, x, f, stops) = c.only t next starts s in
    let (b, more, k, e) = value_first v f.front f.holds in
    let whole : next ≡ b ∷ (more ++ x) = f.is ∙ ap (λ (l : List ℕ). l ++ x) e in
    let low : nat_lt b 128 ≡ false = rw whole at (starts_past (λ b. nat_lt b 128) text next starts p) in
    omega (arith, low_kind b low, k, rank-le v)) (value_pause c))

-- ---- a string

module _ {opened : ℕ} {before text : List ℕ} (c : ValueContext opened before text) where
  -- A character may begin after the opening quote and complete characters of a string.
  string_place : (body s : List ℕ) → StringBody body s → IsCharacterPlace (before ++ 34 ∷ body)
  string_place body s h = (opened, inside_append (34 ∷ body) c.place (λ last gap. inl (last, body, s, gap, h, refl)))

  string_pause : (body s : List ℕ) → StringBody body s → MayPause (before ++ 34 ∷ body)
  string_pause body s h =
      let written : List ℕ = 34 ∷ ((body ++ 32 ∷ []) ++ 34 ∷ []) in
      let b = c.builds (string (s ++ 32 ∷ [])) written
      (spaced (λ value. IsValue (string (s ++ 32 ∷ [])) value) written (body ++ 32 ∷ [], body-push h (unescaped refl), refl)) in
      let (tree, accepted) = built_accepted b (omega (arith, c.within)) refl in
      record { more = 34 ∷ c.closers; tree = tree; accepted = simp append_assoc (simp append_assoc at accepted) }

  -- If the content of a string stops, the text has a syntax error there.
  pub string_fault : (inside : List ℕ) (left : ℕ) → text ≡ 34 ∷ inside → ContentStops inside left
      → RejectsBy (before ++ text) (faults.Syntax left)
  string_fault inside left e s =
      let is : before ++ text ≡ (before ++ 34 ∷ s.body) ++ s.rest =
      ap (λ (l : List ℕ). before ++ l) (e ∙ ap (λ (l : List ℕ). 34 ∷ l) s.is) ∙ sym (append_assoc before (34 ∷ s.body) s.rest) in
      fault_of (before ++ 34 ∷ s.body) s.rest left is s.left_is
      (content_error (before ++ 34 ∷ s.body) s.rest is (string_place s.body s.meant s.is_body) (string_pause s.body s.meant s.is_body)
      s.unclosed s.no_character)

-- A fault in a string is a fault of the value.
quoted_fault : (opened : ℕ) (text more : List ℕ) (fault : Fault) → text ≡ 34 ∷ more → StringFault text fault → Explains opened text fault
quoted_fault opened text more (faults.Syntax left) e (inl (is, p)) before c = absurd (past_byte 34 text more p e)
quoted_fault opened text more (faults.Syntax left) e (inr (inside, is, s)) before c = string_fault c inside left is s
quoted_fault opened text more faults.Memory e h before c = memory_fault (before ++ text)
quoted_fault opened text more fault e h before c = absurd h

-- ---- any scalar

-- A fault in a number is a fault of the value.
other_fault : (opened : ℕ) (text : List ℕ) (first : ℕ) (more : List ℕ) (fault : Fault) → text ≡ first ∷ more
    → IsApart first → NumberFault text fault → Explains opened text fault
other_fault opened text first more (faults.Syntax left) e apart h before c = number_fault c first more e apart h
other_fault opened text first more (faults.NumberRange left) e apart (is, past) before c =
    λ memory. record {
      before = before;
      rest = text;
      is = refl;
      at_is = omega (arith, length-append before text, is);
      begins = pause_begins (value_pause c);
      opened = opened;
      place = c.place;
      past = past;
    }
other_fault opened text first more faults.Memory e apart h before c = memory_fault (before ++ text)
other_fault opened text first more fault e apart h before c = absurd h

scalar_fault : (opened : ℕ) (text : List ℕ) (fault : Fault) → ScalarFault text fault → Explains opened text fault
scalar_fault opened text fault (first, more, e, inl h) before c =
    quoted_fault opened text more fault (begins 34 text first more e h.0) h.1 before c
scalar_fault opened text fault (first, more, e, inr (inl h)) before c =
    word_fault null_word _ refl (refl, (refl, (refl, (refl, tt)))) c more (begins 110 text first more e h.0) fault h.1
scalar_fault opened text fault (first, more, e, inr (inr (inl h))) before c =
    word_fault (boolean_word true) _ refl (refl, (refl, (refl, (refl, tt)))) c more (begins 116 text first more e h.0) fault h.1
scalar_fault opened text fault (first, more, e, inr (inr (inr (inl h)))) before c =
    word_fault (boolean_word false) _ refl (refl, (refl, (refl, (refl, (refl, tt))))) c more (begins 102 text first more e h.0) fault h.1
scalar_fault opened text fault (first, more, e, inr (inr (inr (inr h)))) before c =
    other_fault opened text first more fault e h.0 h.1 before c

-- If `ReadsScalar` holds and the stacks in the scratch are unchanged, `ReadsValue` holds.
pub scalar_read : (opened : ℕ) (text : List ℕ) (result : Result (WellFormed × Bor (List ℕ)) Fault) (old new : Texts)
    (before after : Scratch) → opened ≤ max_depth → after.values.items ≡ before.values.items → after.members.items ≡ before.members.items
    → ReadsScalar text result old new → ReadsValue opened text result old new before after
scalar_read opened text (Ok x) old new before after within values members scalar = record {
  cache = scalar.cache;
  answer = record { read = scalar.answer.read opened within; shared = scalar.answer.shared; values = values; members = members };
}
scalar_read opened text (Err fault) old new before after within values members scalar =
    record { cache = scalar.cache; answer = scalar_fault opened text fault scalar.answer }
