-- Lemmas about an object of two entries: after both entries were put, after the second value was
-- written, and after `retain` kept only the second entry.
use Rattle.std.proofs.Common.{◌≡◌, ◌≢◌, ◌↔◌, ℕ, List, [], ◌∷◌, length, get_or, Bool, true, false, Option, Some, None, MutBor, refl, sym, ap}
use Rattle.std.proofs.Common.{subst, ◌∙◌, arith}
use Rattle.std.specs.Option.{option_copied_mut, unwrap_or}
use Rattle.std.specs.Prelude.{if◌then◌else◌, cond, IsSome, IsTrue}
use Rattle.std.specs.Cmp.Lexicographic.{bytes_decides}
use Rattle.ijson_table.proofs.pairs.KeyPositions.{position-distinct}
use Rattle.ijson_table.specs.Store.{Store, at, keys_of, lookup, put, with_value, swap_out}
use Rattle.ijson_value.specs.LendsAtKey.{with_found}
use Rattle.ijson_value.specs.Retains.{RetainsFrom, Retains}
use Rattle.ijson_value.specs.Tree.{boolean}
use Rattle.ijson_value.specs.Values.{boolean_value}
use Rattle.ijson_value.specs.WellFormed.{WellFormed}
use Rattle.ijson_value.proofs.comparing.SameSteps.{other_bytes}

some_there : (r : Option (MutBor WellFormed)) (v : WellFormed) → option_copied_mut r ≡ Some v → IsSome r
some_there None v e = cc
some_there (Some x) v e = cc

-- Two different keys are put into an empty list of entries, each with a given value.
module _ (k₁ k₂ : List ℕ) (v₁ v₂ : WellFormed) (old ps : List (List ℕ × WellFormed)) (s : Store WellFormed) (empty : old ≡ [])
    (apart : k₁ ≢ k₂)
    (first : ps ≡ put old k₁ (unwrap_or (lookup k₁ old) v₁)) (second : s.pairs ≡ put ps k₂ (unwrap_or (lookup k₂ ps) v₂)) where
  two_put : s.pairs ≡ (k₁, v₁) ∷ (k₂, v₂) ∷ []
  two_put = simp (second, first, empty, other_bytes k₁ k₂ apart, other_bytes k₂ k₁ (λ e. apart (sym e)))

  -- A lookup finds the second key.
  pub second_there : (r : Option (MutBor WellFormed)) → option_copied_mut r ≡ lookup k₂ s.pairs → IsSome r
  second_there r got =
      some_there r v₂ (got ∙ simp (two_put, other_bytes k₂ k₁ (λ e. apart (sym e)), (bytes_decides k₂ k₂).1 refl))

  -- Writing to the second key replaces its value.
  pub second_written : (w : WellFormed) → (with_found s (at s.pairs k₂) w).pairs ≡ (k₁, v₁) ∷ (k₂, w) ∷ []
  second_written w =
      let found : at s.pairs k₂ ≡ Some 1 = simp (two_put, other_bytes k₁ k₂ apart, (bytes_decides k₂ k₂).1 refl) in
      ap (λ i. (with_found s i w).pairs) found ∙ ap (λ ps. with_value ps 1 w) two_put

-- If `keeps` tests whether a value is `true`, it is `false` for the value `false`.
pub tells_false : (keeps : Bool) (v : WellFormed) → v ≡ boolean_value false → (IsTrue keeps ↔ (v.tree ≡ boolean true)) → keeps ≡ false
tells_false false v is tells = refl
tells_false true v is tells = let said : v.tree ≡ boolean true = tells.0 cc in let was : v.tree ≡ boolean false = ap (λ x. x.tree) is in cc

module _ {F V : Type 0} (asked : F → List ℕ → V → Bool → V → F → Type 0)
    (stays : (f : F) (key : List ℕ) (v : V) (keeps : Bool) (w : V) (g : F) → asked f key v keeps w g → w ≡ v) where
  one_kept : (f : F) (key : List ℕ) (v : V) (kept : List (List ℕ × V))
      → ((f : F) (key : List ℕ) (keeps : Bool) (w : V) (g : F) → asked f key v keeps w g → keeps ≡ true)
      → RetainsFrom asked 1 f 0 ((key, v) ∷ []) kept → kept ≡ (key, v) ∷ []
  one_kept f key v kept keeps_it h =
      let got : ◌≡◌ {A = Option (List ℕ × V)} (Some (key, v)) (Some (h.0, h.1)) = h.5 in
      let pair : ◌≡◌ {A = List ℕ × V} (h.0, h.1) (key, v) = cc in
      let same : h.1 ≡ v = ap (λ (p : List ℕ × V). p.1) pair in
      let keeps : h.2 ≡ true = keeps_it f h.0 h.2 h.3 h.4 (subst (λ x. asked f h.0 x h.2 h.3 h.4) same h.6) in
      let left : h.3 ≡ v = stays f h.0 h.1 h.2 h.3 h.4 h.6 ∙ same in
      let ps : List (List ℕ × V) = (key, v) ∷ [] in
      subst (λ b. RetainsFrom asked 0 h.4 (if b then 1 else 0) (if b then with_value ps 0 h.3 else swap_out ps 0) kept) keeps h.7
      ∙ ap (λ w. (key, w) ∷ []) left

  pub second_kept : (f : F) (k₁ k₂ : List ℕ) (v₁ v₂ : V) (kept : List (List ℕ × V))
      → ((f : F) (key : List ℕ) (keeps : Bool) (w : V) (g : F) → asked f key v₁ keeps w g → keeps ≡ false)
      → ((f : F) (key : List ℕ) (keeps : Bool) (w : V) (g : F) → asked f key v₂ keeps w g → keeps ≡ true)
      → Retains asked f ((k₁, v₁) ∷ (k₂, v₂) ∷ []) kept → kept ≡ (k₂, v₂) ∷ []
  second_kept f k₁ k₂ v₁ v₂ kept drops_it keeps_it h =
      let got : ◌≡◌ {A = Option (List ℕ × V)} (Some (k₁, v₁)) (Some (h.0, h.1)) = h.5 in
      let pair : ◌≡◌ {A = List ℕ × V} (h.0, h.1) (k₁, v₁) = cc in
      let same : h.1 ≡ v₁ = ap (λ (p : List ℕ × V). p.1) pair in
      let keeps : h.2 ≡ false = drops_it f h.0 h.2 h.3 h.4 (subst (λ x. asked f h.0 x h.2 h.3 h.4) same h.6) in
      let ps : List (List ℕ × V) = (k₁, v₁) ∷ (k₂, v₂) ∷ [] in
      one_kept h.4 k₂ v₂ kept keeps_it
      (subst (λ b. RetainsFrom asked 1 h.4 (if b then 1 else 0) (if b then with_value ps 0 h.3 else swap_out ps 0) kept) keeps h.7)
