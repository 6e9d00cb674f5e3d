-- The effect of `retain`, as in the Rust crate `ijson`. Entries are visited from the first. A kept
-- entry has the value that the closure wrote. The last entry replaces a removed entry and is
-- visited next.
use Rattle.std.specs.Prelude.{◌≡◌, ℕ, zero, suc, ◌+◌, Bool, List, length, slice_get, Some, if◌then◌else◌}
use Rattle.ijson_table.specs.Store.{with_value, swap_out}

-- `asked f key v keeps w g` means that the closure `f`, called on `key` and `v`, returned `keeps`,
-- changed the value to `w`, and became the closure `g`.
module _ {F V : Type 0} (asked : F → List ℕ → V → Bool → V → F → Type 0) where
  -- Holds if visiting the `n` remaining entries of `pairs`, from index `i` on, can leave the
  -- entries `kept`.
  abbrev pub RetainsFrom : ℕ → F → ℕ → List (List ℕ × V) → List (List ℕ × V) → Type 0
  RetainsFrom zero f i pairs kept = kept ≡ pairs
  RetainsFrom (suc n) f i pairs kept =
      (key : List ℕ) × (v : V) × (keeps : Bool) × (w : V) × (g : F)
      × (slice_get pairs i ≡ Some (key, v)) × asked f key v keeps w g
      × RetainsFrom n g (if keeps then i + 1 else i) (if keeps then with_value pairs i w else swap_out pairs i) kept

  -- Holds if `retain` with the closure `f` can turn the entries `pairs` into `kept`.
  -- e.g. keys 0 to 5 with their numbers, evens stay times ten: called for 0, 1, 5, 4, 2, 3, and
  -- 0:0, 4:40, 2:20 are left.
  abbrev pub Retains : F → List (List ℕ × V) → List (List ℕ × V) → Type 0
  Retains f pairs kept = RetainsFrom (length pairs) f 0 pairs kept
