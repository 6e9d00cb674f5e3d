-- The effect of `retain` is the effect of one call of the closure and of the remaining calls.
use Rattle.std.proofs.Common.{◌≡◌, ◌<◌, ℕ, zero, suc, ◌+◌, ◌-◌, List, [], ◌∷◌, length, get_or, set, take, Bool, true, false, Some, refl}
use Rattle.std.proofs.Common.{sym, ap, subst, ◌∙◌, arith, inl, inr, length-set}
use Rattle.std.specs.Prelude.{slice_get, swap_remove, if◌then◌else◌}
use Rattle.std.proofs.lemmas.List.{take-set-le, set-set, get_or-set_other}
use Rattle.std.proofs.lemmas.Bool.{cases_lt}
use Rattle.ijson_table.proofs.pairs.PairsByKey.{set-value, swap_out-is}
use Rattle.ijson_table.specs.Store.{with_value, swap_out}
use Rattle.ijson_value.specs.MayAsk.{MayAskFrom}
use Rattle.ijson_value.specs.Retains.{RetainsFrom}
use Rattle.ijson_value.specs.laws.EntryValid.{length-with_value}
use Rattle.ijson_value.proofs.pairs.PairLookups.{pair_there}

module _ {X : Type 0} where
  -- If the lookup of index `i` returns `x`, then the element at index `i` is `x`.
  get_there : (xs : List X) (i : ℕ) (x : X) → slice_get xs i ≡ Some x → x ≡ get_or xs i x
  get_there [] i x e = cc
  get_there (y ∷ ys) zero x e = let same : y ≡ x = cc in sym same
  get_there (y ∷ ys) (suc i) x e = get_there ys i x e

  -- Writing an element and then removing it equals removing the old element.
  remove_written : (xs : List X) (i : ℕ) (y d : X) → i < length xs → swap_remove (set xs i y) i d ≡ swap_remove xs i d
  remove_written xs i y d within =
      let last : ℕ = length xs - 1 in
      let size = length-set xs i y in
      ap (λ n. take (n - 1) (set (set xs i y) i (get_or (set xs i y) (n - 1) d))) size
      ∙ ap (take last) (set-set xs i y (get_or (set xs i y) last d))
      ∙ elim (cases_lt i last) [
        | inl before ↦ ap (λ x. take last (set xs i x)) (get_or-set_other xs i last y d (λ e. omega (arith, before, e)))
        | inr past ↦ take-set-le last xs i (get_or (set xs i y) last d) past ∙ sym (take-set-le last xs i (get_or xs last d) past)
      ]

module _ {V : Type 0} where
  -- Writing the value of an entry and then removing the entry equals removing the entry.
  pub swap_out_written : (pairs : List (List ℕ × V)) (i : ℕ) (w : V) → i < length pairs
      → swap_out (with_value pairs i w) i ≡ swap_out pairs i
  swap_out_written pairs i w within =
      let pair = pair_there pairs i within in
      let read = get_there pairs i pair.0 pair.1 in
      let is = set-value pairs i pair.0 w within read in
      let size = length-with_value pairs i w in
      sym (swap_out-is (with_value pairs i w) i pair.0 (omega (arith, within, size)))
      ∙ ap (λ ps. swap_remove ps i pair.0) (sym is)
      ∙ remove_written pairs i (pair.0.0, w) pair.0 within
      ∙ swap_out-is pairs i pair.0 within

module _ {F V : Type 0} (asked : F → List ℕ → V → Bool → V → F → Type 0) where
  -- If a call keeps the entry at index `i`, and the remaining calls can leave `qs`, then all `n`
  -- calls can leave `qs`.
  pub kept : (n m : ℕ) (f g : F) (i : ℕ) (ps qs : List (List ℕ × V)) (key : List ℕ) (v w : V) → n ≡ suc m
      → slice_get ps i ≡ Some (key, v) → asked f key v true w g → RetainsFrom asked m g (i + 1) (with_value ps i w) qs
      → RetainsFrom asked n f i ps qs
  kept n m f g i ps qs key v w e got did rest = subst (λ k. RetainsFrom asked k f i ps qs) (sym e) (key, v, true, w, g, got, did, rest)

  -- If a call removes the entry at index `i`, and the remaining calls can leave `qs`, then all `n`
  -- calls can leave `qs`.
  pub gone : (n m : ℕ) (f g : F) (i : ℕ) (ps qs : List (List ℕ × V)) (key : List ℕ) (v w : V) → n ≡ suc m
      → slice_get ps i ≡ Some (key, v) → asked f key v false w g → RetainsFrom asked m g i (swap_out ps i) qs
      → RetainsFrom asked n f i ps qs
  gone n m f g i ps qs key v w e got did rest = subst (λ k. RetainsFrom asked k f i ps qs) (sym e) (key, v, false, w, g, got, did, rest)

  -- If `may` permits the calls from index `i` on, then `may` permits the first of them, and after
  -- it the remaining calls.
  module _ (may : F → List ℕ → V → Type 0) where
    -- If `may` permits the calls from index `i` on, then `may` permits the call on the entry at
    -- `i`.
    pub asks_now : (f : F) (i : ℕ) (ps : List (List ℕ × V)) (key : List ℕ) (v : V) → MayAskFrom asked may f i ps
        → slice_get ps i ≡ Some (key, v) → may f key v
    asks_now f i ps key v may_ask got = may_ask.at 0 f i ps key v (refl, refl, refl) got

    -- If `may` permits the calls from index `i` on, then `may` permits the remaining calls after
    -- the call on the entry at `i`.
    pub may_ask_next : (f g : F) (i : ℕ) (ps : List (List ℕ × V)) (key : List ℕ) (v : V) (keeps : Bool) (w : V)
        → MayAskFrom asked may f i ps → slice_get ps i ≡ Some (key, v) → asked f key v keeps w g
        → MayAskFrom asked may g (if keeps then i + 1 else i) (if keeps then with_value ps i w else swap_out ps i)
    may_ask_next f g i ps key v keeps w may_ask got did = record {
      at = λ n h j left k u run there. may_ask.at (suc n) h j left k u (key, v, keeps, w, g, got, did, run) there;
    }
