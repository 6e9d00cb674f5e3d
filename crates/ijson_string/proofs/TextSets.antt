-- The set of the strings in a list.
use Rattle.std.proofs.Common.{◌≡◌, ◌∙◌, sym, refl, ℕ, true, false, ◌||◌, List, [], ◌∷◌}
use Rattle.std.specs.List.{list_any}
use Rattle.std.specs.Ordering.{nat_cmp, eq_by_cmp}
use Rattle.std.specs.Cmp.{IsTotalOrder, Equal-is}
use Rattle.std.specs.Cmp.Lexicographic.{slice_cmp, nat_list_cmp_total}
use Rattle.std.specs.Str.{bytes_eq}
use Rattle.std.specs.FinSet as set
use Rattle.std.specs.FinMap.{IsAntisymmetric, slice_cmp-IsAntisymmetric, nat_cmp-IsAntisymmetric}
use Rattle.std.proofs.lemmas.Map.Text.{is_eq-slice_cmp}

-- The lexicographic order of byte strings is total.
pub order : IsTotalOrder (slice_cmp nat_cmp)
order = nat_list_cmp_total

-- Byte strings that compare as equal are equal.
pub exact : IsAntisymmetric (slice_cmp nat_cmp)
exact = slice_cmp-IsAntisymmetric nat_cmp-IsAntisymmetric

-- A list contains a string that compares as equal to `q` if and only if it contains `q`.
tied : (keys : List (List ℕ)) (q : List ℕ)
    → list_any (eq_by_cmp (slice_cmp nat_cmp) q) keys ≡ list_any (λ k. bytes_eq q k) keys
tied [] q = refl
tied (k ∷ keys) q = λ i. is_eq-slice_cmp q k i || tied keys q i

-- The set built from a list contains exactly the strings of the list.
pub contains-from_list : (keys : List (List ℕ)) (q : List ℕ)
    → set.contains {R = slice_cmp nat_cmp} (set.from_list keys) q ≡ list_any (λ k. bytes_eq q k) keys
contains-from_list keys q = set.contains-from_list order keys q ∙ tied keys q

-- Inserting a string that is present leaves the set unchanged.
pub insert-present : (texts : set.FinSet (slice_cmp nat_cmp)) (text : List ℕ) → set.contains texts text ≡ true
    → set.insert texts text ≡ texts
insert-present texts text present =
    set.same_set order exact _ _ (λ q. set.contains-insert order texts text q ∙
    elim (eq_by_cmp (slice_cmp nat_cmp) q text)
    as (λ b. eq_by_cmp (slice_cmp nat_cmp) q text ≡ b → (b || set.contains texts q) ≡ set.contains texts q) [
      | true ↦ λ same. sym present ∙ set.contains_tied order texts q text ((Equal-is (slice_cmp nat_cmp q text)).0 same)
      | false ↦ λ _. refl
    ] refl)
