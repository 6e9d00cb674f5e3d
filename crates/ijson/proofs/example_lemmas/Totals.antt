-- The sum of the numbers of a tree is unique, and a loop over its values computes it.
use Rattle.std.proofs.Common.{◌≡◌, ℕ, ◌+◌, ◌<◌, ◌≤◌, ◌^◌, List, [], ◌∷◌, map, refl, sym, ap, subst, ◌∙◌, arith}
use Rattle.std.specs.Prelude.{pos}
use Rattle.ijson_value.proofs.Walks.{one_integer}
use Rattle.ijson_value.specs.Tree.{Tree, number, array, object, Items, no_items, item, Members, no_members, member, depth, items_depth}
use Rattle.ijson_value.specs.WellFormed.{WellFormed, IsWellFormed, AreWellFormed, HaveWellFormed, item_trees, pair_trees}
use Rattle.ijson.specs.examples.Total.{SumsTo, EachSumsTo, ValuesSumTo}

mutual
  one_sum : (t : Tree) (x y : ℕ) → IsWellFormed t → SumsTo t x → SumsTo t y → x ≡ y
  one_sum (number n) x y w h k = let e = one_integer (number n) (pos x) (pos y) w h k in cc
  one_sum (array ts) x y w h k = one_sum_each ts x y w h k
  one_sum (object ps) x y w h k = one_sum_values ps x y w.1 h k
  one_sum _ x y w h k = h ∙ sym k

  one_sum_each : (ts : Items) (x y : ℕ) → AreWellFormed ts → EachSumsTo ts x → EachSumsTo ts y → x ≡ y
  one_sum_each no_items x y w h k = h ∙ sym k
  one_sum_each (item t ts) x y w h k = omega (arith, one_sum t h.0 k.0 w.0 h.2 k.2, one_sum_each ts h.1 k.1 w.1 h.3 k.3, h.4, k.4)

  one_sum_values : (ps : Members) (x y : ℕ) → HaveWellFormed ps → ValuesSumTo ps x → ValuesSumTo ps y → x ≡ y
  one_sum_values no_members x y w h k = h ∙ sym k
  one_sum_values (member key t ps) x y w h k = omega (arith, one_sum t h.0 k.0 w.0 h.2 k.2, one_sum_values ps h.1 k.1 w.1 h.3 k.3, h.4, k.4)

pub values_sum : (ps : List (List ℕ × WellFormed)) → ◌≡◌ {A = ℕ → Type 0} (EachSumsTo (item_trees (map (λ p. p.1) ps)))
    (ValuesSumTo (pair_trees ps))
values_sum [] = refl
values_sum (p ∷ ps) = ap (λ (Rest : ℕ → Type 0). λ (sum : ℕ). (x y : ℕ) × SumsTo p.1.tree x × Rest y × (sum ≡ x + y)) (values_sum ps)

-- Holds if the sum of all values is `so_far` plus the sum of the remaining values `left`, whose
-- depth is at most `deepest`.
pub record IsLeft (Whole : ℕ → Type 0) (deepest : ℕ) (left : List WellFormed) (so_far : ℕ) : Type 0 where
  pub parts : (n : ℕ) → Whole n → (m : ℕ) × EachSumsTo (item_trees left) m × (n ≡ so_far + m)
  pub whole : (m : ℕ) → EachSumsTo (item_trees left) m → Whole (so_far + m)
  pub below : items_depth (item_trees left) ≤ deepest

pub all_left : (vs : List WellFormed) (Whole : ℕ → Type 0) (deepest : ℕ) → ◌≡◌ {A = ℕ → Type 0} (EachSumsTo (item_trees vs)) Whole
    → items_depth (item_trees vs) ≡ deepest → IsLeft Whole deepest vs 0
all_left vs Whole deepest is deep = record {
  parts = λ n w. (n, subst (λ (W : ℕ → Type 0). W n) (sym is) w, omega arith);
  whole = λ m h. subst Whole (omega arith) (subst (λ (W : ℕ → Type 0). W m) is h);
  below = omega (arith, deep);
}

module _ (Whole : ℕ → Type 0) (deepest so_far : ℕ) (left : List WellFormed) (h : IsLeft Whole deepest left so_far) where
  with_left : (vs : List WellFormed) → left ≡ vs → IsLeft Whole deepest vs so_far
  with_left vs is = subst (λ vs. IsLeft Whole deepest vs so_far) is h

  pub none_left : left ≡ [] → Whole so_far
  none_left is = subst Whole (omega arith) ((with_left [] is).whole 0 refl)

  module _ (v : WellFormed) (rest : List WellFormed) (is : left ≡ v ∷ rest) where
    pub first_below : depth v.tree ≤ deepest
    first_below = omega (arith, (with_left (v ∷ rest) is).below)

    pub none_first : ((x : ℕ) → x < 2 ^ 64 → SumsTo v.tree x → ⊥) → (n : ℕ) → n < 2 ^ 64 → Whole n → ⊥
    none_first none n small w = let r = (with_left (v ∷ rest) is).parts n w in none r.1.0 (omega (arith, r.2, r.1.4, small)) r.1.2

    module _ (x next : ℕ) (sums : SumsTo v.tree x) where
      behind : (n : ℕ) → Whole n → (m : ℕ) × EachSumsTo (item_trees rest) m × (n ≡ so_far + x + m)
      behind n w = let r = (with_left (v ∷ rest) is).parts n w
          in (r.1.1, r.1.3, omega (arith, one_sum v.tree r.1.0 x v.well_formed r.1.2 sums, r.1.4, r.2))

      pub none_more : (so_far + x < 2 ^ 64 → ⊥) → (n : ℕ) → n < 2 ^ 64 → Whole n → ⊥
      none_more large n small w = large (omega (arith, (behind n w).2, small))

      pub one_more : next ≡ so_far + x → IsLeft Whole deepest rest next
      one_more e = record {
        parts = λ n w. let r = behind n w in (r.0, r.1, omega (arith, r.2, e));
        whole = λ m w. subst Whole (omega (arith, e)) ((with_left (v ∷ rest) is).whole (x + m) (x, m, sums, w, refl));
        below = omega (arith, (with_left (v ∷ rest) is).below);
      }
