-- The limits on the length of a store, and the capacity that more entries require.
use Rattle.std.specs.Prelude.{◌≡◌, ℕ, ◌+◌, ◌<◌, ◌≤◌, List, Option, Some, None, Result, Ok, Err, OnOk, OnErr}
use Rattle.ijson_table.specs.Growth.{capacity_limit, wanted}
use Rattle.ijson_table.specs.declared.store.ReserveError.{ReserveError}
use Rattle.ijson_table.specs.declared.store.ReserveError.TheVariants.{TooLarge}

-- Holds if the capacity `c` is at least the length and at most the limit.
pub record HasRoom (len c : ℕ) : Type 0 where
  pub within : len ≤ c
  pub limited : c ≤ capacity_limit

-- Holds if this is the capacity that `n` more entries require from a store of length `len` and
-- capacity `c`. `None` means that they fit. The error is `TooLarge` if the capacity would exceed
-- the limit.
abbrev pub AsksFor : ℕ → ℕ → ℕ → Result (Option ℕ) ReserveError → Type 0
AsksFor len c n (Ok None) = (len + n ≤ c) × (c ≡ wanted len c n)
AsksFor len c n (Ok (Some grown)) = (c < len + n) × (len + n ≤ grown) × (grown ≡ wanted len c n) × (grown ≤ capacity_limit)
AsksFor len c n (Err why) = (c < wanted len c n) × (why ≡ TooLarge) × (capacity_limit < wanted len c n)

-- Holds if setting the capacity from `c` to `room` may have this result. The items are unchanged.
-- If an allocation fails, the capacity is also unchanged.
pub record IsResized {A B E : Type 0} (items : List A) (c room : ℕ) (result : Result B E) (items' : List A)
    (c' : ℕ) : Type 0 where
  pub same : items' ≡ items
  pub done : OnOk result (c' ≡ room)
  pub refused : OnErr result ((0 < room) × (c' ≡ c))
