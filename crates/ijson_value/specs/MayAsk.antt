-- The precondition of `retain`: its closure may be called on each entry that it visits.
use Rattle.std.specs.Prelude.{◌≡◌, ℕ, zero, suc, ◌+◌, Bool, List, slice_get, Some, if◌then◌else◌}
use Rattle.ijson_table.specs.Store.{with_value, swap_out}

-- `asked f key v keeps w g` means that the closure `f`, called on `key` and `v`, returned `keeps`,
-- changed the value to `w`, and became the closure `g`.
module _ {F V : Type 0} (asked : F → List ℕ → V → Bool → V → F → Type 0) where
  -- Holds if `n` calls of the closure `f`, from index `i` of `pairs` on, can leave the closure `g`
  -- and the entries `left`, with index `j` visited next.
  abbrev pub AskedFrom : ℕ → F → ℕ → List (List ℕ × V) → F → ℕ → List (List ℕ × V) → Type 0
  AskedFrom zero f i pairs g j left = (g ≡ f) × (j ≡ i) × (left ≡ pairs)
  AskedFrom (suc n) f i pairs g j left =
      (key : List ℕ) × (v : V) × (keeps : Bool) × (w : V) × (h : F)
      × (slice_get pairs i ≡ Some (key, v)) × asked f key v keeps w h
      × AskedFrom n h (if keeps then i + 1 else i) (if keeps then with_value pairs i w else swap_out pairs i) g j left

  -- Holds if `may` permits each call of the closure on the entries of `pairs` from index `i` on.
  pub record MayAskFrom (may : F → List ℕ → V → Type 0) (f : F) (i : ℕ) (pairs : List (List ℕ × V)) : Type 0 where
    pub at : (n : ℕ) (g : F) (j : ℕ) (left : List (List ℕ × V)) (key : List ℕ) (v : V)
        → AskedFrom n f i pairs g j left → slice_get left j ≡ Some (key, v) → may g key v

  -- Holds if `may` permits each call of the closure that `retain` makes on `pairs`.
  -- e.g. a closure that may be called three times in all may be called for three entries, not for
  -- four.
  abbrev pub MayAsk : (F → List ℕ → V → Type 0) → F → List (List ℕ × V) → Type 0
  MayAsk may f pairs = MayAskFrom may f 0 pairs
