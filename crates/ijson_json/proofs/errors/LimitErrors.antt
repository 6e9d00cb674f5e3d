-- Lemmas: an accepted text does not exceed a limit.
use Rattle.std.proofs.Common.{◌≡◌, ℕ, ◌<◌, ◌≤◌, true, false, List, ◌∷◌, ◌++◌, refl, sym, ap, ◌∙◌, arith, inl, inr}
use Rattle.std.specs.Prelude.{◌==◌, ◌⊎◌, ◌≤◌}
use Rattle.ijson_number.specs.NumberFront.{IsUnread}
use Rattle.ijson_number.specs.declared.number.ReadNumberError.TheVariants.{OutOfRange}
use Rattle.ijson_number.proofs.parsing.SpelledBytes.{spells_first}
use Rattle.ijson_value.specs.Tree.{Tree, depth, number, array, object}
use Rattle.ijson_value.specs.Order.{rank}
use Rattle.ijson_json.specs.Ranged.{is_ranged}
use Rattle.ijson_json.specs.Grammar.{is_space, Spaced, IsValue, Accepted}
use Rattle.ijson_json.specs.Limits.{max_depth}
use Rattle.ijson_json.specs.Inside.{IsValuePlace}
use Rattle.ijson_json.specs.private.Reading.{Front, Past, PastLimitAt, Stops}
use Rattle.ijson_json.proofs.scanning.Prefixes.{not_both}
use Rattle.ijson_json.proofs.grammar.FirstBytes.{kind, kind_at, value-past_space, value-past_kind}
use Rattle.ijson_json.proofs.reading.Numbers.{past_limit}
use Rattle.ijson_json.proofs.errors.Places.{value_at}

-- ---- a text that exceeds a limit

-- The depth of a container is at least 1.
container_deep : (t : Tree) → 4 ≤ rank t → 1 ≤ depth t
container_deep (array is) h = omega arith
container_deep (object ms) h = omega arith
container_deep t h = absurd (omega (arith, h))

-- An opening bracket is neither white space nor `]`, and it begins a container.
pub bracket_is : (b : ℕ) → (b ≡ 91) ⊎ (b ≡ 123) → (is_space b ≡ false) × ((b == 93) ≡ false) × (4 ≤ kind b)
bracket_is b (inl e) = rw e (refl, refl, omega arith)
bracket_is b (inr e) = rw e (refl, refl, omega arith)

-- If an opening bracket follows `before`, inside `opened` containers, the tree is deeper than
-- `opened`.
pub bracket_deep : (opened : ℕ) (before : List ℕ) (b : ℕ) (rest : List ℕ) (t : Tree) → IsValuePlace opened before → (b ≡ 91) ⊎ (b ≡ 123)
    → Spaced (λ value. IsValue t value) (before ++ b ∷ rest) → opened < depth t
bracket_deep opened before b rest t i o s =
    let (space, other, high) = bracket_is b o in
    let v = value_at opened before (b ∷ rest) t i space other s in
    let same = kind_at v.value b rest (b ∷ rest) v.behind refl v.front in
    let deep : 1 ≤ depth v.value = container_deep v.value (omega (arith, same, high)) in
    omega (arith, v.deep, deep)

-- If `PastLimitAt` holds for a text, each value at its start is a number beyond the limit.
value_past : (text : List ℕ) → PastLimitAt text → (t : Tree) (x : List ℕ) → Stops x → Front (λ value. IsValue t value) text x
    → is_ranged t ≡ false
value_past text p (number n) x stops g =
    p.each n x (record { found = record { front = g.front; holds = g.holds; is = g.is }; stops = stops })
value_past text p t x stops g =
    let f = p.beginning in
    let n = f.holds.0 in
    let (first, more, k, e) = spells_first f.front n f.holds.1 in
    let begun : text ≡ first ∷ (more ++ p.rest) = f.is ∙ ap (λ (l : List ℕ). l ++ p.rest) e in
    let same : rank t ≡ 2 = sym (kind_at t first (more ++ p.rest) text x begun g)
    ∙ kind_at (number n) first (more ++ p.rest) text p.rest begun (record { front = f.front; holds = f.holds.1; is = f.is }) in
    absurd (omega (arith, same))

-- If a number out of range is in a JSON text where a value may begin, the tree exceeds the exponent
-- limit.
pub number_past : (opened : ℕ) (before rest : List ℕ) (t : Tree) → IsValuePlace opened before → IsUnread rest OutOfRange
    → Spaced (λ value. IsValue t value) (before ++ rest) → is_ranged t ≡ true → ⊥
number_past opened before rest t i (count, front, past) s ranged =
    let p = past_limit rest count front past in
    let f = p.beginning in
    let n = f.holds in
    let space : Past is_space rest = rw f.is (value-past_space (number n.0) f.front p.rest n.1) in
    let other : Past (λ b. b == 93) rest = rw f.is (value-past_kind 93 refl (number n.0) f.front p.rest n.1) in
    let v = value_at opened before rest t i space other s in
    not_both (is_ranged v.value) (v.ranged ranged) (value_past rest p v.value v.behind v.stops v.front)

-- An accepted text does not contain an opening bracket that exceeds the nesting limit.
pub accepted_shallow : (text : List ℕ) (tree : Tree) (before : List ℕ) (b : ℕ) (rest : List ℕ) → Accepted text tree
    → text ≡ before ++ b ∷ rest → IsValuePlace max_depth before → (b ≡ 91) ⊎ (b ≡ 123) → ⊥
accepted_shallow text tree before b rest (deepest, within, r) e i o =
    let deep = bracket_deep max_depth before b rest r.written i o (rw e at r.spelled) in
    omega (arith, deep, within, r.deepest_is)

pub accepted_ranged : (text : List ℕ) (tree : Tree) (opened : ℕ) (before rest : List ℕ) → Accepted text tree
    → text ≡ before ++ rest → IsValuePlace opened before → IsUnread rest OutOfRange → ⊥
accepted_ranged text tree opened before rest (deepest, within, r) e i past =
    number_past opened before rest r.written i past (rw e at r.spelled) (sym r.ranged_is)
