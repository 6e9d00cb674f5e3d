-- Lemmas: if a text stops being JSON, its error is at the first byte that no JSON text has there.
use Rattle.std.proofs.Common.{◌≡◌, ℕ, ◌+◌, ◌-◌, ◌<◌, true, List, [], ◌∷◌, ◌++◌, length, take, drop, refl, sym, ap, subst, ◌∙◌, append_assoc, append-nil, arith, inl, inr}
use Rattle.std.specs.Prelude.{◌⊎◌}
use Rattle.std.proofs.Math.Seq.{take-append_seam}
use Rattle.std.proofs.lemmas.List.{append_cancel_left, length-append, length-take-le, take-append-drop}
use Rattle.ijson_number.specs.NumberBytes.{is_number_byte}
use Rattle.ijson_number.specs.NumberFront.{BeginsNumber, IsNumberFront, IsPastLimit, IsUnread}
use Rattle.ijson_number.specs.declared.number.ReadNumberError.TheVariants.{OutOfRange}
use Rattle.ijson_number.proofs.parsing.SpelledBytes.{spells_bytes}
use Rattle.ijson_value.specs.Tree.{Tree}
use Rattle.ijson_json.specs.Strings.{Character, short, short_escape}
use Rattle.ijson_json.specs.Grammar.{Spaced, IsValue, Accepted}
use Rattle.ijson_json.specs.Begins.{Begins, BeginsWithin}
use Rattle.ijson_json.specs.Inside.{IsCharacterPlace}
use Rattle.ijson_json.specs.ErrorOf.{IsErrorOf, TooDeepAt, OutOfRangeAt, BadEscapeAt, StuckAt}
use Rattle.ijson_json.specs.private.Contexts.{StartsAs}
use Rattle.ijson_json.specs.private.Explains.{RejectsBy}
use Rattle.ijson_json.specs.private.Reading.{Stops}
use Rattle.ijson_json.specs.private.StringReading.{NoCharacter}
use Rattle.ijson_json.specs.declared.fault.Fault.TheVariants as faults
use Rattle.ijson_json.specs.declared.fault.JsonError.TheVariants as errors
use Rattle.ijson_json.proofs.scanning.Prefixes.{Run, not_both, heads}
use Rattle.ijson_json.proofs.scanning.Starts.{starts_self}
use Rattle.ijson_json.proofs.errors.Overlaps.{IsLonger, overlap, run_behind}
use Rattle.ijson_json.proofs.errors.Completions.{IsCompleted, character_completed, space_completed, space_in_string, number_completed, bracket_completed}
use Rattle.ijson_json.proofs.errors.LimitErrors.{accepted_ranged}
use Rattle.ijson_json.proofs.errors.EarlierLimits.{no_deep_before}
use Rattle.ijson_json.proofs.errors.CharacterPlaces.{no_escape_before}

-- Holds if some accepted text begins with `seen` and a space.
pub record MayPause (seen : List ℕ) : Type 0 where
  pub more : List ℕ
  pub tree : Tree
  pub accepted : Accepted (seen ++ 32 ∷ more) tree

-- Holds if no JSON text continues after `seen` with the first byte of `rest`. If `rest` is empty,
-- holds if `seen` is not a JSON text.
abbrev pub IsStuckAfter : List ℕ → List ℕ → Type 0
IsStuckAfter seen rest = (t : Tree) (next : List ℕ) → StartsAs rest next → Spaced (λ value. IsValue t value) (seen ++ next) → ⊥

-- If a space may follow `seen`, some accepted text begins with `seen`.
pub pause_begins : {seen : List ℕ} → MayPause seen → BeginsWithin seen
pause_begins p = (32 ∷ p.more, p.tree, p.accepted)

-- If a space may follow `seen`, some bytes extend `seen` and a space to a JSON text.
pause_completed : {seen : List ℕ} → MayPause seen → IsCompleted (seen ++ 32 ∷ [])
pause_completed {seen} p =
    let r = p.accepted.2 in (
      p.more,
      r.written,
      subst (λ (l : List ℕ). Spaced (λ value. IsValue r.written value) l) (sym (append_assoc seen (32 ∷ []) p.more)) r.spelled,
    )

-- If a text is stuck after `seen`, no JSON text begins with a longer prefix of that text.
none_longer : (seen rest : List ℕ) → IsStuckAfter seen rest → (longer more y : List ℕ) (t : Tree) → IsLonger seen longer rest y
    → Spaced (λ value. IsValue t value) (longer ++ more) → ⊥
none_longer seen rest none longer more y t (c, mid, e, f) s =
    none t (c ∷ (mid ++ more)) (rw f (mid ++ more, refl))
    (subst (λ (l : List ℕ). Spaced (λ value. IsValue t value) l)
    (ap (λ (l : List ℕ). l ++ more) e ∙ append_assoc seen (c ∷ mid) more) s)

-- If a text is stuck after `seen`, no bytes extend a longer prefix of that text to a JSON text.
pub none_completed : (seen rest : List ℕ) → IsStuckAfter seen rest → (longer y : List ℕ) → IsLonger seen longer rest y
    → IsCompleted longer → ⊥
none_completed seen rest none longer y l (closing, t, s) = none_longer seen rest none longer closing y t l s

-- If a text is stuck after `seen`, no accepted text begins with a longer prefix of that text.
pub none_begins : (seen rest : List ℕ) → IsStuckAfter seen rest → (longer y : List ℕ) → IsLonger seen longer rest y
    → BeginsWithin longer → ⊥
none_begins seen rest none longer y l (more, tree, (deepest, within, r)) = none_longer seen rest none longer more y r.written l r.spelled

-- If a character of a string may begin after `before`, some bytes extend `before` to a JSON text.
pub place_completed : (before : List ℕ) → IsCharacterPlace before → IsCompleted before
place_completed before place =
    let (closing, t, s) = space_in_string before place in
    (32 ∷ closing, t, subst (λ (l : List ℕ). Spaced (λ value. IsValue t value) l) (append_assoc before (32 ∷ []) closing) s)

-- ---- a number beyond the limit

-- The first `length front + 1` bytes of `front ++ c ∷ z` are `front` and `c`.
take_one : (front : List ℕ) (c : ℕ) (z : List ℕ) → take (length front + 1) (front ++ c ∷ z) ≡ front ++ c ∷ []
take_one front c z =
    let one : length (front ++ c ∷ []) ≡ length front + 1 = omega (arith, length-append front (c ∷ [])) in
    ap (λ (k : ℕ). take k (front ++ c ∷ z)) (sym one) ∙ ap (take (length (front ++ c ∷ []))) (sym (append_assoc front (c ∷ []) z))
    ∙ take-append_seam (front ++ c ∷ []) z

-- `number` is the longest prefix of `text` that begins a number. The lemmas replace the text after
-- `number` by `z`.
--
-- `z` begins with the same byte as the text after `number`, or does not begin with a byte of a
-- number.
module _ (text : List ℕ) (count : ℕ) (f : IsNumberFront text count) where
  abbrev number : List ℕ
  number = take count text

  number_length : length number ≡ count
  number_length = length-take-le count text f.within

  taken : (z : List ℕ) → take count (number ++ z) ≡ number
  taken z = ap (λ (k : ℕ). take k (number ++ z)) (sym number_length) ∙ take-append_seam number z

  one_more : (c : ℕ) (z : List ℕ) → take (count + 1) (number ++ c ∷ z) ≡ number ++ c ∷ []
  one_more c z = ap (λ (k : ℕ). take (k + 1) (number ++ c ∷ z)) (sym number_length) ∙ take_one number c z

  -- If `c` follows the longest prefix of a text that begins a number, no number begins with this
  -- prefix and `c`.
  pub ends_there : (c : ℕ) (z : List ℕ) → drop count text ≡ c ∷ z → BeginsNumber (take count text ++ c ∷ []) → ⊥
  ends_there c z e more =
      let whole : text ≡ number ++ c ∷ z = sym (take-append-drop count text) ∙ ap (λ (l : List ℕ). number ++ l) e in
      f.ends (omega (arith, ap length whole, length-append number (c ∷ z), number_length))
      (subst BeginsNumber (sym (ap (take (count + 1)) whole ∙ one_more c z)) more)

  ends : (z : List ℕ) → Stops z ⊎ StartsAs (drop count text) z → count < length (number ++ z)
      → BeginsNumber (take (count + 1) (number ++ z)) → ⊥
  ends [] h less more = absurd (omega (arith, less, length-append number [], number_length))
  ends (c ∷ z) (inl stops) less more =
      let (others, n, s) = subst BeginsNumber (one_more c z) more in
      let bytes : Run is_number_byte (number ++ (c ∷ others)) =
      subst (λ (l : List ℕ). Run is_number_byte l) (append_assoc number (c ∷ []) others) (spells_bytes _ n s) in
      not_both (is_number_byte c) (run_behind is_number_byte number (c ∷ others) bytes).0 stops
  ends (c ∷ z) (inr starts) less more = go (drop count text) refl starts
    where
      go : (rest : List ℕ) → drop count text ≡ rest → StartsAs rest (c ∷ z) → ⊥
      go [] e s = cc
      go (d ∷ rest) e (w, s) =
          let same : c ≡ d = heads c d z w s in
          ends_there d rest e (rw same at (subst BeginsNumber (one_more c z) more))

  -- If the number at the start of `text` is out of range, it is also out of range if `z` follows
  -- it.
  pub unread_again : IsPastLimit (take count text) → (z : List ℕ) → Stops z ⊎ StartsAs (drop count text) z
      → IsUnread (take count text ++ z) OutOfRange
  unread_again past z h = (
    count,
    record {
      within = omega (arith, number_length, length-append number z);
      begins = subst BeginsNumber (sym (taken z)) f.begins;
      ends = ends z h;
    },
    subst IsPastLimit (sym (taken z)) past,
  )

-- The bytes of a text up to the end of a number out of range.
abbrev pub number_end : {text : List ℕ} {at : ℕ} → OutOfRangeAt text at → List ℕ
number_end a = a.before ++ take a.past.0 a.rest

-- A text that begins with `number_end a` and does not continue the number is not accepted.
past_accepted : {text : List ℕ} {at : ℕ} (a : OutOfRangeAt text at) (z : List ℕ) (tree : Tree) → Stops z ⊎ StartsAs (drop a.past.0 a.rest) z
    → Accepted (number_end a ++ z) tree → ⊥
past_accepted a z tree h accepted =
    let (count, front, past) = a.past in
    accepted_ranged (number_end a ++ z) tree a.opened a.before (take count a.rest ++ z) accepted
    (append_assoc a.before (take count a.rest) z) a.place (unread_again a.rest count front past z h)

-- If a space may follow `seen`, each number out of range ends after `seen`.
pub no_range_seen : {text : List ℕ} {at : ℕ} (a : OutOfRangeAt text at) (seen rest : List ℕ) → text ≡ seen ++ rest → MayPause seen
    → (IsLonger seen (number_end a) rest (drop a.past.0 a.rest) → ⊥) → ⊥
no_range_seen a seen rest is pause longer =
    let more = pause.more in
    let tree = pause.tree in
    let accepted = pause.accepted in
    let count = a.past.0 in
    let whole : number_end a ++ drop count a.rest ≡ seen ++ rest =
    append_assoc a.before (take count a.rest) (drop count a.rest) ∙ ap (λ (l : List ℕ). a.before ++ l) (take-append-drop count a.rest)
    ∙ sym a.is ∙ is in
    elim (overlap (number_end a) seen (drop count a.rest) rest whole) [
      | inl s ↦ past_accepted a (32 ∷ more) tree (inl refl)
          (subst (λ (l : List ℕ). Accepted (l ++ 32 ∷ more) tree) (sym s.0) accepted)
      | inr o ↦ elim o [
        | inl l ↦ past_accepted a (l.0 ∷ (l.1 ++ 32 ∷ more)) tree (inr (rw l.3 (l.1 ++ 32 ∷ more, refl)))
            (subst (λ (l : List ℕ). Accepted l tree)
            (ap (λ (s : List ℕ). s ++ 32 ∷ more) l.2 ∙ append_assoc (number_end a) (l.0 ∷ l.1) (32 ∷ more)) accepted)
        | inr l ↦ longer l
      ]
    ]

-- ---- a text that stops being JSON

-- The escape of a backslash spells a backslash.
backslash : Character (92 ∷ 92 ∷ []) (92 ∷ [])
unfolding short_escape
backslash = short refl

module _ {text : List ℕ} (seen rest : List ℕ) (is : text ≡ seen ++ rest) (none : IsStuckAfter seen rest) where
  -- If a text is stuck after `seen`, and some JSON text begins with `seen`, `StuckAt` holds after
  -- `seen`.
  pub stuck_at : Begins seen → StuckAt text (length seen)
  stuck_at begins = record {
    before = seen;
    rest = rest;
    is = is;
    at_is = refl;
    begins = begins;
    no_reading = λ tree deepest ranged r. none r.written rest (starts_self rest)
        (subst (λ (l : List ℕ). Spaced (λ value. IsValue r.written value) l) is r.spelled);
    ends = λ b more e begun.
        let (others, tree, deepest, ranged, r) = begun in
        none r.written (b ∷ others) (rw e (others, refl))
        (subst (λ (l : List ℕ). Spaced (λ value. IsValue r.written value) l) (append_assoc seen (b ∷ []) others) r.spelled);
  }

  module _ (pause : MayPause seen) where
    no_deep : (m : ℕ) → TooDeepAt text m → ⊥
    no_deep m a = elim (overlap a.before seen (a.bracket ∷ a.rest) rest (sym a.is ∙ is)) [
      | inl s ↦
          let (closing, t, spelled) = bracket_completed a.bracket a.place a.opens in
          none t (a.bracket ∷ closing) (rw (sym s.1) (closing, refl))
          (subst (λ (l : List ℕ). Spaced (λ value. IsValue t value) l)
          (append_assoc a.before (a.bracket ∷ []) closing ∙ ap (λ (l : List ℕ). l ++ a.bracket ∷ closing) s.0) spelled)
      | inr o ↦ elim o [
        | inl l ↦ no_deep_before a seen rest (pause_begins pause) l
        | inr l ↦ none_begins seen rest none a.before (a.bracket ∷ a.rest) l a.begins
      ]
    ]

    no_range : (m : ℕ) → OutOfRangeAt text m → ⊥
    no_range m a = no_range_seen a seen rest is pause
        (λ l. none_completed seen rest none (number_end a) (drop a.past.0 a.rest) l
        (number_completed (take a.past.0 a.rest) a.past.2.0 a.place a.past.2.1))

    no_escape : (m : ℕ) → BadEscapeAt text m → ⊥
    no_escape m b = elim (overlap b.before seen (92 ∷ b.letters) rest (sym b.is ∙ is)) [
      | inl s ↦
          let (closing, t, spelled) = character_completed b.before (92 ∷ 92 ∷ []) (92 ∷ []) backslash b.place in
          none t (92 ∷ 92 ∷ closing) (rw (sym s.1) (92 ∷ closing, refl))
          (subst (λ (l : List ℕ). Spaced (λ value. IsValue t value) l)
          (append_assoc b.before (92 ∷ 92 ∷ []) closing ∙ ap (λ (l : List ℕ). l ++ 92 ∷ 92 ∷ closing) s.0) spelled)
      | inr o ↦ elim o [
        | inl l ↦ no_escape_before b seen rest (pause_completed pause) l
        | inr l ↦ none_completed seen rest none b.before (92 ∷ b.letters) l (place_completed b.before b.place)
      ]
    ]

    -- If `text` is stuck after `seen`, and a space may follow `seen`, the error of `text` is a
    -- syntax error after `seen`.
    pub stuck_error : IsErrorOf text (errors.Syntax (length seen))
    stuck_error =
        let (deepest, within, r) = pause.accepted in
        (no_deep, no_range, inr (stuck_at (32 ∷ pause.more, pause.tree, deepest, true, r), no_escape))

-- If `rest` is left, a syntax fault becomes the syntax error at the offset after `seen`.
pub fault_of : {text : List ℕ} (seen rest : List ℕ) (left : ℕ) → text ≡ seen ++ rest → left ≡ length rest
    → IsErrorOf text (errors.Syntax (length seen)) → RejectsBy text (faults.Syntax left)
fault_of {text} seen rest left is e error memory =
    let at : length text - left ≡ length seen = omega (arith, ap length is, length-append seen rest, e) in rw at error

-- ---- an invalid escape

module _ {text : List ℕ} (before letters : List ℕ) (is : text ≡ before ++ 92 ∷ letters) (place : IsCharacterPlace before)
    (pause : MayPause before) (none : NoCharacter (92 ∷ letters)) where
  abbrev bad : BadEscapeAt text (length before)
  bad = record {
    before = before;
    letters = letters;
    is = is;
    at_is = refl;
    place = place;
    none = λ written meant rest c e. none meant rest (written, c, e);
  }

  not_bracket : (b : ℕ) → (b ≡ 91) ⊎ (b ≡ 123) → b ≡ 92 → ⊥
  not_bracket b (inl e) f = omega (arith, e, f)
  not_bracket b (inr e) f = omega (arith, e, f)

  no_deep_escape : (m : ℕ) → TooDeepAt text m → ⊥
  no_deep_escape m a = elim (overlap a.before before (a.bracket ∷ a.rest) (92 ∷ letters) (sym a.is ∙ is)) [
    | inl s ↦ not_bracket a.bracket a.opens (heads _ _ _ _ s.1)
    | inr o ↦ elim o [
      | inl l ↦ no_deep_before a before (92 ∷ letters) (pause_begins pause) l
      | inr l ↦ no_escape_before bad a.before (a.bracket ∷ a.rest) (space_completed a.place) l
    ]
  ]

  -- A backslash is not inside a number out of range.
  outside_number : {m : ℕ} (a : OutOfRangeAt text m) (z : List ℕ) → before ≡ a.before ++ z
      → IsLonger before (number_end a) (92 ∷ letters) (drop a.past.0 a.rest) → ⊥
  outside_number a z e (c, mid, f, g) =
      let backslash : c ≡ 92 = sym (heads _ _ _ _ g) in
      let same : take a.past.0 a.rest ≡ z ++ c ∷ mid = append_cancel_left a.before (take a.past.0 a.rest) (z ++ c ∷ mid)
      (f ∙ ap (λ (l : List ℕ). l ++ c ∷ mid) e ∙ append_assoc a.before z (c ∷ mid)) in
      let bytes = subst (λ (l : List ℕ). Run is_number_byte l) same (spells_bytes _ a.past.2.0 a.past.2.1) in
      not_both (is_number_byte 92) (rw backslash at (run_behind is_number_byte z (c ∷ mid) bytes).0) refl

  no_range_escape : (m : ℕ) → OutOfRangeAt text m → ⊥
  no_range_escape m a = elim (overlap a.before before a.rest (92 ∷ letters) (sym a.is ∙ is)) [
    | inl s ↦ no_range_seen a before (92 ∷ letters) is pause (outside_number a [] (sym s.0 ∙ sym (append-nil a.before)))
    | inr o ↦ elim o [
      | inl l ↦ no_range_seen a before (92 ∷ letters) is pause (outside_number a (l.0 ∷ l.1) l.2)
      | inr l ↦ no_escape_before bad a.before a.rest (space_completed a.place) l
    ]
  ]

  -- The error of a text with an invalid escape is a syntax error at the backslash.
  pub escape_error : IsErrorOf text (errors.Syntax (length before))
  escape_error = (no_deep_escape, no_range_escape, inl bad)
