-- `AreLonger least` holds if each string of the set is longer than `least` bytes.
use Rattle.std.specs.Prelude.{◌≡◌, ◌<◌, ℕ, List, true, false, ◌||◌, length, ltb, if◌then◌else◌}
use Rattle.std.proofs.Common.{◌∙◌, sym, subst, refl, ltb-true}
use Rattle.std.specs.Ordering.{nat_cmp, eq_by_cmp}
use Rattle.std.specs.Cmp.{Equal-is}
use Rattle.std.specs.Cmp.Lexicographic.{slice_cmp, nat_list_cmp_total}
use Rattle.std.specs.FinSet as set
use Rattle.std.proofs.lemmas.Bool.{false≢true}
use Rattle.std.specs.FinMap.{slice_cmp-IsAntisymmetric, nat_cmp-IsAntisymmetric}

abbrev pub AreLonger : ℕ → set.FinSet (slice_cmp nat_cmp) → Type 0
AreLonger least texts = (text : List ℕ) → set.contains texts text ≡ true → least < length text

-- Adding a string longer than `least` keeps `AreLonger least`.
pub longer_insert : (least : ℕ) (texts : set.FinSet (slice_cmp nat_cmp)) (text : List ℕ) → AreLonger least texts → least < length text
    → AreLonger least (set.insert texts text)
longer_insert least texts text all long q present =
    elim (eq_by_cmp (slice_cmp nat_cmp) q text)
    as (λ b. eq_by_cmp (slice_cmp nat_cmp) q text ≡ b → (b || set.contains texts q) ≡ true → least < length q) [
      | true ↦ λ same _.
          subst (λ t. least < length t)
          (sym (slice_cmp-IsAntisymmetric nat_cmp-IsAntisymmetric q text ((Equal-is (slice_cmp nat_cmp q text)).0 same))) long
      | false ↦ λ _ here. all q here
    ] refl (sym (set.contains-insert nat_list_cmp_total texts text q) ∙ present)

-- Adding a string only if it is longer than `least` keeps `AreLonger least`.
pub longer_with : (least : ℕ) (texts : set.FinSet (slice_cmp nat_cmp)) (text : List ℕ) → AreLonger least texts
    → AreLonger least (if ltb least (length text) then set.insert texts text else texts)
longer_with least texts text all =
    elim (ltb least (length text))
    as (λ b. ltb least (length text) ≡ b → AreLonger least (if b then set.insert texts text else texts)) [
      | true ↦ λ long. longer_insert least texts text all (ltb-true least (length text) long)
      | false ↦ λ _. all
    ] refl

-- The empty set satisfies `AreLonger least`.
pub longer_empty : (least : ℕ) → AreLonger least set.empty
longer_empty least q present = absurd (false≢true (sym (set.contains-empty (slice_cmp nat_cmp) q) ∙ present))
