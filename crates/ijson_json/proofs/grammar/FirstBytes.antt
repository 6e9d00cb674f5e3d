-- Lemmas: the first byte of a value determines the kind of the value.
use Rattle.std.proofs.Common.{◌≡◌, ℕ, ◌≤◌, Bool, true, false, cond, List, ◌∷◌, ◌++◌, eqb, refl, sym, ap, ◌∙◌, arith}
use Rattle.std.specs.Prelude.{◌||◌, ◌==◌}
use Rattle.std.proofs.lemmas.Bool.{ne_eqb}
use Rattle.std.proofs.lemmas.Bool.Decides.{nat_tests}
use Rattle.ijson_number.specs.NumberBytes.{is_digit}
use Rattle.ijson_value.specs.Order.{rank}
use Rattle.ijson_value.specs.Tree.{Tree, null, boolean, number, string, array, object}
use Rattle.ijson_json.specs.Grammar.{is_space, boolean_text, IsValue}
use Rattle.ijson_json.specs.private.Reading.{Front, Past}
use Rattle.ijson_number.proofs.parsing.SpelledBytes.{spells_first}
use Rattle.ijson_json.proofs.scanning.Prefixes.{heads}

-- The rank of the values that begin with the byte, or 6 if no value begins with the byte.
abbrev pub kind : ℕ → ℕ
kind b = cond (b == 110) 0 (cond (b == 116) 1 (cond (b == 102) 1
    (cond (b == 91) 4 (cond (b == 34) 3 (cond (b == 123) 5 (cond (is_digit b || (b == 45)) 2 6))))))

-- The first byte of `true` and of `false` has the kind of a Boolean.
boolean_first : (b : Bool) → (c : ℕ) × (more : List ℕ) × (kind c ≡ 1) × (boolean_text b ≡ c ∷ more)
boolean_first true = (_, _, refl, refl)
boolean_first false = (_, _, refl, refl)

-- The text of a value is not empty, and its first byte determines the kind of the value.
pub value_first : (t : Tree) (text : List ℕ) → IsValue t text → (b : ℕ) × (more : List ℕ) × (kind b ≡ rank t) × (text ≡ b ∷ more)
value_first null text v = (_, _, refl, v)
value_first (boolean b) text v = let (c, more, k, e) = boolean_first b in (c, more, k, v ∙ e)
value_first (number n) text v = let (b, more, d, e) = spells_first text n v in (b, more, grind (arith, nat_tests), e)
value_first (string s) text (inside, v, e) = (34, _, refl, e)
value_first (array is) text (inside, v, e) = (91, _, refl, e)
value_first (object ms) text (inside, v, e) = (123, _, refl, e)

-- A byte that begins a value is not white space.
not_space : (b k : ℕ) → kind b ≡ k → k ≤ 5 → is_space b ≡ false
not_space b k e h = grind (arith, nat_tests)

-- A byte that begins a value differs from a byte that does not begin any value.
not_kind : (b c k : ℕ) → kind b ≡ k → k ≤ 5 → kind c ≡ 6 → eqb b c ≡ false
not_kind b c k e h f = ne_eqb b c (λ same. let g : kind b ≡ kind c = ap kind same in omega (arith, g, e, f))

-- The rank of a tree is at most 5.
pub rank-le : (t : Tree) → rank t ≤ 5
rank-le null = omega arith
rank-le t = omega arith

-- The text of a value does not begin with white space.
pub value-past_space : (t : Tree) (text x : List ℕ) → IsValue t text → Past is_space (text ++ x)
value-past_space t text x v =
    let first = value_first t text v in
    rw first.3 (not_space first.0 (rank t) first.2 (rank-le t))

-- The text of a value does not begin with a byte of kind 6, which does not begin any value.
pub value-past_kind : (c : ℕ) → kind c ≡ 6 → (t : Tree) (text x : List ℕ) → IsValue t text → Past (λ b. b == c) (text ++ x)
value-past_kind c k t text x v =
    let first = value_first t text v in
    rw first.3 (not_kind first.0 c (rank t) first.2 (rank-le t) k)

-- The first byte of a text determines the kind of the value at its start.
pub kind_at : (t : Tree) (b : ℕ) (more text x : List ℕ) → text ≡ b ∷ more → Front (λ value. IsValue t value) text x → kind b ≡ rank t
kind_at t b more text x e f =
    let (c, rest, k, is) = value_first t f.front f.holds in
    ap kind (heads b c more (rest ++ x) (sym e ∙ f.is ∙ ap (λ (l : List ℕ). l ++ x) is)) ∙ k

-- Two values at the start of equal texts have the same kind.
pub kinds_same : (t u : Tree) (a b x y : List ℕ) → IsValue t a → IsValue u b → a ++ x ≡ b ++ y → rank t ≡ rank u
kinds_same t u a b x y v w e =
    let f = value_first t a v in
    sym f.2 ∙ kind_at u f.0 (f.1 ++ x) (a ++ x) y (ap (λ (l : List ℕ). l ++ x) f.3) (record { front = b; holds = w; is = e })
