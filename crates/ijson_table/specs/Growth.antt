-- The rule for the capacity of a pair store.
use Rattle.std.specs.Prelude.{◌≡◌, ◌≢◌, ℕ, ◌+◌, ◌*◌, ◌^◌, ◌<◌, ◌≤◌, leb, max, Result, Ok, Err, if◌then◌else◌}
use Rattle.ijson_table.specs.declared.store.ReserveError.{ReserveError}
use Rattle.ijson_table.specs.declared.store.ReserveError.TheVariants.{Memory, TooLarge}

-- The maximum capacity of a store.
abbrev pub capacity_limit : ℕ
capacity_limit = 2 ^ 56

-- The capacity of a store of length `len` and capacity `c` after `n` more entries are reserved: `c`
-- if they fit, else the maximum of `2 * c`, `len + n` and 4.
abbrev pub wanted : ℕ → ℕ → ℕ → ℕ
wanted len c n = (if leb (len + n) c then c else max (max (2 * c) (len + n)) 4)

-- Holds if reserving `n` more entries can have this result and the new capacity `c'`. On success,
-- `c'` is `wanted`. On an error, the capacity is unchanged: `TooLarge` means that it would exceed
-- the limit, `Memory` that an allocation failed.
abbrev pub Grow : {A : Type 0} → ℕ → ℕ → ℕ → Result A ReserveError → ℕ → Type 0
Grow len c n (Ok _) c' = (c' ≡ wanted len c n) × (c < c' → c' ≤ capacity_limit)
Grow len c n (Err TooLarge) c' = (c' ≡ c) × (c < wanted len c n) × (capacity_limit < wanted len c n)
Grow len c n (Err Memory) c' = (c' ≡ c) × (c < wanted len c n) × (wanted len c n ≤ capacity_limit)

-- Holds if shrinking a store to its length `len` can have this result and the new capacity `c'`. On
-- success, `c'` is `len`. The only error is `Memory`, after which the capacity is unchanged.
-- e.g. five keys in order go from capacity 0 to 4 and to 8; a, c at capacity 4 shrink to 2; room
-- for 2^56 + 1 is `TooLarge`.
abbrev pub Shrink : {A : Type 0} → ℕ → ℕ → Result A ReserveError → ℕ → Type 0
Shrink len c (Ok _) c' = c' ≡ len
Shrink len c (Err Memory) c' = (c' ≡ c) × (c ≢ len) × (0 < len)
Shrink len c (Err TooLarge) c' = ⊥

-- Holds if reserving `n` more entries can succeed with the new capacity `c'`.
abbrev pub Grown : ℕ → ℕ → ℕ → ℕ → Type 0
Grown len c n c' = Grow {A = Unit {0}} len c n (Ok tt) c'

-- Holds if reserving `n` more entries can fail for the reason `why`, with the capacity `c'`.
-- e.g. one more at length 4 and capacity 4 grows to 8, or stays at 4 if memory ran out.
abbrev pub Ungrown : ℕ → ℕ → ℕ → ReserveError → ℕ → Type 0
Ungrown len c n why c' = Grow {A = Unit {0}} len c n (Err why) c'
