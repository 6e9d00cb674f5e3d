-- Adding a string that links to the old head of its bucket keeps the chains of indices valid.
use Rattle.std.proofs.Common.{◌≡◌, ◌∙◌, ap, ap₂, sym, subst, below_more, refl, ℕ, zero, suc, ◌+◌, ◌-◌, ◌<◌, ◌≤◌, true, false, List, [], ◌∷◌}
use Rattle.std.proofs.Common.{◌++◌, length, get_or, take, if◌then◌else◌, arith, length-append}
use Rattle.std.specs.Prelude.{◌==◌}
use Rattle.std.proofs.Math.Dec.{eqb-suc-zero}
use Rattle.std.proofs.Math.ListN.{set, get_or-append}
use Rattle.std.proofs.Math.Seq.{get_or-append_seam, take-append_seam}
use Rattle.std.proofs.lemmas.Bool.{eqb-true}
use Rattle.std.proofs.lemmas.Bool.Decides.{nat_tests}
use Rattle.std.proofs.lemmas.Grind.{common_steps, get_or-set_at}
use Rattle.std.proofs.lemmas.List.{length-set, take-append-le}
use Rattle.ijson_string.specs.private.Chains.{head_of, IsChained}

-- The head of a bucket is at most the length of the list.
pub head_of-within : (bucket : ℕ) (buckets : List ℕ) → head_of bucket buckets ≤ length buckets
head_of-within bucket [] = omega arith
head_of-within bucket (h ∷ buckets) = grind (arith, nat_tests, head_of-within bucket buckets)

-- If a bucket is not empty, the string at its head is in this bucket.
pub head_of-here : (bucket : ℕ) (buckets : List ℕ) → 0 < head_of bucket buckets → get_or buckets (head_of bucket buckets - 1) 0 ≡ bucket
head_of-here bucket [] some = absurd (omega arith)
head_of-here bucket (h ∷ buckets) some =
    elim (head_of bucket buckets)
    as (λ n. head_of bucket buckets ≡ n → 0 < (if n == 0 then (if h == bucket then 1 else 0) else n + 1)
    → get_or (h ∷ buckets) ((if n == 0 then (if h == bucket then 1 else 0) else n + 1) - 1) 0 ≡ bucket) [
      | zero ↦ λ _. elim (h == bucket)
          as (λ b. (h == bucket) ≡ b → 0 < (if b then 1 else 0) → get_or (h ∷ buckets) ((if b then 1 else 0) - 1) 0 ≡ bucket) [
            | true ↦ λ is _. eqb-true h bucket is
            | false ↦ λ _ none. absurd (omega arith)
          ] refl
      | suc n ↦ λ e _.
          let here = head_of-here bucket buckets (omega arith) in
          let back : head_of bucket buckets - 1 ≡ n = omega arith in
          let on : suc n + 1 - 1 ≡ suc n = omega arith in
          subst (λ b. get_or (h ∷ buckets) ((if b then (if h == bucket then 1 else 0) else suc n + 1) - 1) 0 ≡ bucket)
          (sym (eqb-suc-zero n))
          (subst (λ m. get_or (h ∷ buckets) m 0 ≡ bucket) (sym on) (subst (λ m. get_or buckets m 0 ≡ bucket) back here))
    ] refl some

-- Adding a string makes it the head of its bucket, and keeps the heads of all other buckets.
head_of-push : (bucket : ℕ) (buckets : List ℕ) (h : ℕ)
    → head_of bucket (buckets ++ h ∷ []) ≡ (if h == bucket then length buckets + 1 else head_of bucket buckets)
head_of-push bucket [] h = refl
head_of-push bucket (x ∷ buckets) h = rw (head_of-push bucket buckets h) (grind (arith, nat_tests))

-- Adding a string that links to the old head of its bucket, and making the string the head, keeps
-- `IsChained`.
pub IsChained-push : (buckets nexts heads : List ℕ) (h : ℕ) → IsChained buckets nexts heads
    → length nexts ≡ length buckets → h < length heads
    → IsChained (buckets ++ h ∷ []) (nexts ++ get_or heads h 0 ∷ []) (set heads h (length buckets + 1))
IsChained-push buckets nexts heads h chained listed within = record {
  starts = λ q lt.
      let there : q < length heads = rw (← length-set heads h (length buckets + 1)) lt in
      rw (head_of-push q buckets h) (grind (arith, nat_tests, common_steps, get_or-set_at, chained.starts q there));
  links = λ p lt.
      let one_more : length (buckets ++ h ∷ []) ≡ length buckets + 1 = length-append buckets (h ∷ []) in
      below_more
      (λ q. get_or (nexts ++ get_or heads h 0 ∷ []) q 0 ≡ head_of (get_or (buckets ++ h ∷ []) q 0) (take q (buckets ++ h ∷ [])))
      (length buckets)
      (λ q below.
      get_or-append nexts _ 0 q (omega arith) ∙ chained.links q below
      ∙ sym (ap₂ head_of (get_or-append buckets _ 0 q below) (take-append-le q buckets _ (omega arith))))
      (ap (λ n. get_or (nexts ++ get_or heads h 0 ∷ []) n 0) (sym listed) ∙ get_or-append_seam nexts _ [] 0
      ∙ chained.starts h within ∙ sym (ap₂ head_of (get_or-append_seam buckets h [] 0) (take-append_seam buckets (h ∷ []))))
      p (omega arith);
}
