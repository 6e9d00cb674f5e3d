-- If the high bit of each lane of a vector is the result of a test, the mask of the vector is the
-- mask of the results.
use Rattle.std.proofs.Common.{◌≡◌, ℕ, ◌%◌, ◌^◌, ◌≤◌, Bool, cond, List, [], ◌∷◌, map, length, refl, ap, ap₂, ◌∙◌, arith}
use Rattle.std.proofs.lemmas.List.{length-map}
use Rattle.std.proofs.lemmas.Simd.{mask_l-mod}
use lib.Lanes.{mask_l, top}

-- The lane of a comparison: 255 if it holds, otherwise 0.
abbrev pub lit : Bool → ℕ
lit b = cond b 255 0

module _ (lane : ℕ → ℕ) (test : ℕ → Bool) (same : (b : ℕ) → top 7 (lane b) ≡ test b) where
  -- If each lane has the high bit that `test` returns, the high bits of all lanes are the results
  -- of `test`.
  lanes_are : (v : List ℕ) → map (top 7) (map lane v) ≡ map test v
  lanes_are [] = refl
  lanes_are (b ∷ v) = ap₂ ◌∷◌ (same b) (lanes_are v)

  -- The mask of the lanes of `v` is the mask of the results of `test`, for up to 64 bytes.
  pub lanes_mask : (v lanes : List ℕ) → length v ≤ 64 → lanes ≡ map lane v → mask_l (map (top 7) lanes) % 2 ^ 64 ≡ mask_l (map test v)
  lanes_mask v lanes short is = ap (λ m. mask_l (map (top 7) m) % 2 ^ 64) is ∙ ap (λ m. mask_l m % 2 ^ 64) (lanes_are v)
      ∙ mask_l-mod (map test v) 64 (omega (arith, length-map v test))
