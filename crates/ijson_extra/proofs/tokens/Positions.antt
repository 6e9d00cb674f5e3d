-- A token denotes the same array index as its meaning. If the token can be parsed as a number, this
-- number is the index.
use Rattle.std.proofs.Common.{◌≡◌, inl, inr, ℕ, ◌<◌, ◌≤◌, ◌^◌, Result, Ok, Err, not, Bool, true, false, List, [], ◌∷◌, eqb, length, refl}
use Rattle.std.proofs.Common.{sym, ap, ◌∙◌, arith, Option, Some, None, option_map}
use mathlib.Core.Bool.{true≢false}
use Rattle.std.specs.Prelude.{◌==◌}
use Rattle.std.proofs.lemmas.Bool.{and_parts, cases_lt}
use Rattle.std.proofs.lemmas.Option.{same_Some}
use Rattle.std.proofs.lemmas.Str.Parse.{IsNumeralModel, numerals_by_value, tells_all_ascii_digits, not_in_digits, parse_digits}
use Rattle.std.specs.Char.{is_ascii_digit}
use Rattle.std.specs.Str.{all_ascii_digits}
use Rattle.std.specs.Str.Parse.{digits_value, ParsesUnsigned}
use Rattle.std.specs.Result.{OkIff, MatchResult}
use Rattle.std.specs.Int.{IsInRange}
use Rattle.ijson_extra.specs.Pointer.{names_position, position_named, meant, escape_meant}
use Rattle.ijson_extra.proofs.Pointers.{by_tests, meant_itself}

own : IsNumeralModel (λ ds. all_ascii_digits ds ≡ true) (digits_value 10)
own = numerals_by_value (λ ds. all_ascii_digits ds ≡ true) tells_all_ascii_digits

not_digit : IsInRange 48 57 126 → ⊥
not_digit h = omega (arith, h)

pub position_digits : (token : List ℕ) → names_position token ≡ true → all_ascii_digits token ≡ true
position_digits [] e = absurd (cc)
position_digits (b ∷ []) e = e
position_digits (b ∷ c ∷ token) e = (and_parts (not (b == 48)) (all_ascii_digits (b ∷ c ∷ token)) e).1

pub digits_meant : (token : List ℕ) → all_ascii_digits token ≡ true → meant token ≡ Some token
digits_meant token e = meant_itself token (not_in_digits own token 126 e not_digit)

-- If prepending `b` to the list in `o` results in the digits `m`, then `b` is a digit and the list
-- in `o` consists of digits.
with_first : (b : ℕ) (o : Option (List ℕ)) (m : List ℕ) → option_map (λ token. b ∷ token) o ≡ Some m → all_ascii_digits m ≡ true
    → (n : List ℕ) × (o ≡ Some n) × (b ∷ n ≡ m) × (is_ascii_digit b ≡ true) × (all_ascii_digits n ≡ true)
with_first b None m e h = absurd (cc)
with_first b (Some n) m e h =
    let is = same_Some (b ∷ n) m e in let both = and_parts (is_ascii_digit b) (all_ascii_digits n) (ap all_ascii_digits is ∙ h) in
    (n, refl, is, both.0, both.1)

-- A text that begins with an escape does not mean a list of digits.
no_escapes : (text m : List ℕ) → escape_meant text ≡ Some m → all_ascii_digits m ≡ true → ⊥
no_escapes [] m e h = absurd (cc)
no_escapes (b ∷ text) m e h =
    by_tests (λ o. o ≡ Some m → ⊥) (eqb b 48) _ _ (λ f. true≢false (sym (with_first 126 (meant text) m f h).3))
    (by_tests (λ o. o ≡ Some m → ⊥) (eqb b 49) _ _ (λ f. true≢false (sym (with_first 47 (meant text) m f h).3)) (λ f. absurd (cc))) e

-- A token that means digits consists of these digits.
digits_back : (token m : List ℕ) → meant token ≡ Some m → all_ascii_digits m ≡ true → token ≡ m
digits_back [] m e h = same_Some [] m e
digits_back (b ∷ text) m e h =
    by_tests (λ o. o ≡ Some m → b ∷ text ≡ m) (eqb b 126) _ _ (λ f. absurd (no_escapes text m f h))
    (λ f. let rest = with_first b (meant text) m f h in ap (λ x. b ∷ x) (digits_back text rest.0 rest.1 rest.4) ∙ rest.2) e

pub not_named : (token : List ℕ) → names_position token ≡ false → position_named token ≡ None
not_named token e = ap (λ (r : Bool). elim r [ true ↦ Some (digits_value 10 token) | false ↦ None ]) e

pub named : (token : List ℕ) → names_position token ≡ true → position_named token ≡ Some (digits_value 10 token)
named token e = ap (λ (r : Bool). elim r [ true ↦ Some (digits_value 10 token) | false ↦ None ]) e

by_position : (token m : List ℕ) (p q : Bool) → names_position token ≡ p → names_position m ≡ q → meant token ≡ Some m
    → position_named token ≡ position_named m
by_position token m p true f g e = ap position_named (digits_back token m e (position_digits m g))
by_position token m true false f g e = ap position_named (same_Some token m (sym (digits_meant token (position_digits token f)) ∙ e))
by_position token m false false f g e = not_named token f ∙ sym (not_named m g)

-- A token denotes the same index as its meaning.
pub same_position : (token m : List ℕ) → meant token ≡ Some m → position_named token ≡ position_named m
same_position token m e = by_position token m (names_position token) (names_position m) refl refl e

at_least : (n k : ℕ) → k < 2 ^ 64 → (n < 2 ^ 64 → ⊥) → k ≤ n
at_least n k l h = elim (cases_lt n (2 ^ 64)) [ inl a ↦ absurd (h a) | inr b ↦ omega (arith, l, b) ]

position_some : (token : List ℕ) → names_position token ≡ true → 0 < length token
position_some [] e = absurd (cc)
position_some (b ∷ token) e = omega arith

read_by : {E : Type 0} (token : List ℕ) (count : ℕ) (r : Result ℕ E)
    → OkIff r ((0 < length token) × (digits_value 10 token < 2 ^ 64)) (digits_value 10 token) → names_position token ≡ true
    → 0 < length token → count < 2 ^ 64
    → MatchResult r (λ n. position_named token ≡ Some n) (λ e. (i : ℕ) → position_named token ≡ Some i → count ≤ i)
read_by token count (Ok n) h p s l = named token p ∙ ap (λ (k : ℕ). Some k) (sym h.1)
read_by token count (Err x) h p s l = λ i e.
    let is = same_Some (digits_value 10 token) i (sym (named token p) ∙ e) in
    let past = at_least (digits_value 10 token) count l (λ m. h (s, m)) in
    omega (arith, is, past)

-- If the token is parsed to `n`, it denotes the index `n`. If parsing fails, the index is at least
-- `count`.
pub position_read : {E : Type 0} (token : List ℕ) (count : ℕ) (r : Result ℕ E) → ParsesUnsigned 64 10 token r → names_position token ≡ true
    → count < 2 ^ 64
    → MatchResult r (λ n. position_named token ≡ Some n) (λ e. (i : ℕ) → position_named token ≡ Some i → count ≤ i)
position_read token count r h p l = read_by token count r (parse_digits own 64 token r h (position_digits token p)) p
    (position_some token p) l
