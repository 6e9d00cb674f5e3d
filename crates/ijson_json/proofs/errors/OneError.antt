-- Lemmas: a text has at most one error, and an accepted text has no error.
use Rattle.std.proofs.Common.{◌≡◌, ℕ, true, List, [], ◌∷◌, ◌++◌, length, take, drop, sym, ap, subst, ◌∙◌, append_assoc, arith, inl, inr}
use Rattle.std.proofs.lemmas.List.{take-append-drop}
use Rattle.ijson_number.specs.NumberFront.{IsUnread}
use Rattle.ijson_number.specs.declared.number.ReadNumberError.TheVariants.{OutOfRange}
use Rattle.ijson_value.specs.Tree.{Tree, number}
use Rattle.ijson_json.specs.Grammar.{Spaced, IsValue}
use Rattle.ijson_json.specs.Limits.{max_depth}
use Rattle.ijson_json.specs.ErrorOf.{TooDeepAt, OutOfRangeAt, BadEscapeAt, StuckAt}
use Rattle.ijson_json.specs.OneError.{OneError, AcceptedHasNoError}
use Rattle.ijson_json.specs.declared.fault.JsonError.TheVariants as errors
use Rattle.ijson_json.proofs.grammar.FirstBytes.{kind_at}
use Rattle.ijson_json.proofs.errors.Overlaps.{IsLonger, overlap}
use Rattle.ijson_json.proofs.errors.LimitErrors.{bracket_is, accepted_shallow, accepted_ranged}
use Rattle.ijson_json.proofs.errors.EarlierLimits.{no_deep_before, no_range_before}
use Rattle.ijson_json.proofs.errors.Completions.{space_in_string}
use Rattle.ijson_json.proofs.errors.CharacterPlaces.{content_at, escape_first, no_escape_before}

-- A JSON text does not contain an invalid escape.
pub bad_escape_unread : {text : List ℕ} {at : ℕ} (b : BadEscapeAt text at) (t : Tree) → Spaced (λ value. IsValue t value) text → ⊥
bad_escape_unread b t s =
    let content = content_at b.before (92 ∷ b.letters) t b.place (subst (λ (l : List ℕ). Spaced (λ value. IsValue t value) l) b.is s) in
    let (w, m, rest, c, e) = escape_first b.letters content in
    b.none w m rest c e

pub accepted_has_no_error : AcceptedHasNoError
accepted_has_no_error text tree (errors.Syntax at) (deepest, within, r) (deep, range, inl b) = bad_escape_unread b r.written r.spelled
accepted_has_no_error text tree (errors.Syntax at) (deepest, within, r) (deep, range, inr s) = s.0.no_reading tree deepest true r
accepted_has_no_error text tree (errors.TooDeep at) a e = accepted_shallow text tree e.before e.bracket e.rest a e.is e.place e.opens
accepted_has_no_error text tree (errors.NumberRange at) a e = accepted_ranged text tree e.opened e.before e.rest a e.is e.place e.past
accepted_has_no_error text tree errors.Memory a e = e

-- ---- two errors of one text

same_deep : {text : List ℕ} {at m : ℕ} → TooDeepAt text at → TooDeepAt text m → at ≡ m
same_deep a b = elim (overlap a.before b.before (a.bracket ∷ a.rest) (b.bracket ∷ b.rest) (sym a.is ∙ b.is)) [
  | inl s ↦ a.at_is ∙ ap length s.0 ∙ sym b.at_is
  | inr o ↦ elim o [
    | inl l ↦ absurd (no_deep_before a b.before (b.bracket ∷ b.rest) b.begins l)
    | inr l ↦ absurd (no_deep_before b a.before (a.bracket ∷ a.rest) a.begins l)
  ]
]

same_range : {text : List ℕ} {at m : ℕ} → OutOfRangeAt text at → OutOfRangeAt text m → at ≡ m
same_range a b = elim (overlap a.before b.before a.rest b.rest (sym a.is ∙ b.is)) [
  | inl s ↦ a.at_is ∙ ap length s.0 ∙ sym b.at_is
  | inr o ↦ elim o [
    | inl l ↦ absurd (no_range_before a b.opened b.before b.rest b.begins b.place l)
    | inr l ↦ absurd (no_range_before b a.opened a.before a.rest a.begins a.place l)
  ]
]

-- A number does not begin with an opening bracket.
bracket_no_number : {text : List ℕ} {at : ℕ} (a : TooDeepAt text at) (rest : List ℕ) → a.bracket ∷ a.rest ≡ rest → IsUnread rest OutOfRange → ⊥
bracket_no_number a rest e (count, front, past) =
    let kind = kind_at (number past.0) a.bracket a.rest rest (drop count rest) (sym e)
    (record { front = take count rest; holds = past.1; is = sym (take-append-drop count rest) }) in
    let high = (bracket_is a.bracket a.opens).2 in
    omega (arith, kind, high)

deep_or_range : {text : List ℕ} {at m : ℕ} → TooDeepAt text at → OutOfRangeAt text m → ⊥
deep_or_range a b = elim (overlap a.before b.before (a.bracket ∷ a.rest) b.rest (sym a.is ∙ b.is)) [
  | inl s ↦ bracket_no_number a b.rest s.1 b.past
  | inr o ↦ elim o [
    | inl l ↦ no_deep_before a b.before b.rest b.begins l
    | inr l ↦ no_range_before b max_depth a.before (a.bracket ∷ a.rest) a.begins a.place l
  ]
]

same_escape : {text : List ℕ} {at m : ℕ} → BadEscapeAt text at → BadEscapeAt text m → at ≡ m
same_escape a b = elim (overlap a.before b.before (92 ∷ a.letters) (92 ∷ b.letters) (sym a.is ∙ b.is)) [
  | inl s ↦ a.at_is ∙ ap length s.0 ∙ sym b.at_is
  | inr o ↦ elim o [
    | inl l ↦ absurd (no_escape_before a b.before (92 ∷ b.letters) (space_in_string b.before b.place) l)
    | inr l ↦ absurd (no_escape_before b a.before (92 ∷ a.letters) (space_in_string a.before a.place) l)
  ]
]

-- If a text is stuck after `a.before`, no JSON text begins with a longer prefix of that text.
no_stop_before : {text : List ℕ} {at m : ℕ} (a : StuckAt text at) (b : StuckAt text m) → IsLonger a.before b.before a.rest b.rest → ⊥
no_stop_before a b (c, mid, e, f) =
    let (more, tree, deepest, ranged, r) = b.begins in
    let whole : b.before ++ more ≡ (a.before ++ c ∷ []) ++ (mid ++ more) = rw e (simp append_assoc) in
    a.ends c (mid ++ b.rest) f (mid ++ more, tree, deepest, ranged, rw whole at r)

same_stop : {text : List ℕ} {at m : ℕ} → StuckAt text at → StuckAt text m → at ≡ m
same_stop a b = elim (overlap a.before b.before a.rest b.rest (sym a.is ∙ b.is)) [
  | inl s ↦ a.at_is ∙ ap length s.0 ∙ sym b.at_is
  | inr o ↦ elim o [ inl l ↦ absurd (no_stop_before a b l) | inr l ↦ absurd (no_stop_before b a l) ]
]

pub one_error : OneError
one_error text (errors.Syntax at) (errors.Syntax m) (_, _, inl a) (_, _, inl b) = ap errors.Syntax (same_escape a b)
one_error text (errors.Syntax at) (errors.Syntax m) (_, _, inl a) (_, _, inr b) = absurd (b.1 at a)
one_error text (errors.Syntax at) (errors.Syntax m) (_, _, inr a) (_, _, inl b) = absurd (a.1 m b)
one_error text (errors.Syntax at) (errors.Syntax m) (_, _, inr a) (_, _, inr b) = ap errors.Syntax (same_stop a.0 b.0)
one_error text (errors.Syntax at) (errors.TooDeep m) e f = absurd (e.0 m f)
one_error text (errors.Syntax at) (errors.NumberRange m) e f = absurd (e.1 m f)
one_error text (errors.TooDeep at) (errors.Syntax m) e f = absurd (f.0 at e)
one_error text (errors.TooDeep at) (errors.TooDeep m) e f = ap errors.TooDeep (same_deep e f)
one_error text (errors.TooDeep at) (errors.NumberRange m) e f = absurd (deep_or_range e f)
one_error text (errors.NumberRange at) (errors.Syntax m) e f = absurd (f.1 at e)
one_error text (errors.NumberRange at) (errors.TooDeep m) e f = absurd (deep_or_range f e)
one_error text (errors.NumberRange at) (errors.NumberRange m) e f = ap errors.NumberRange (same_range e f)
one_error text errors.Memory f e g = absurd e
one_error text e errors.Memory f g = absurd g
