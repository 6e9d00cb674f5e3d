-- The home slots of hashed indices, and the slots to which they are written.
use Rattle.std.specs.Prelude.{ℕ, zero, suc, ◌+◌, ◌-◌, ◌%◌, max, List, length, get_or}
use Rattle.ijson_table.specs.declared.sorting.order.HashedIndex.{HashedIndex}
use Rattle.ijson_table.specs.private.Sorting.{past_last}

-- The home slot of the hashed index `entry` among `n` slots.
abbrev pub home_in : ℕ → HashedIndex → ℕ
home_in n entry = entry.hash % n

-- The home slot of element `k` of `entries` among `n` slots.
abbrev pub home_of_entry : ℕ → List HashedIndex → ℕ → ℕ
home_of_entry n entries k = home_in n (get_or entries k past_last)

-- The slot after the first `k` hashed indices, whose home slots are `homes`. Each is written to its
-- home slot, or to the slot after the previous index if that slot is later. The first is not
-- written before `start`. Slot numbers do not wrap around.
abbrev pub next_after : (ℕ → ℕ) → ℕ → ℕ → ℕ
next_after homes start zero = start
next_after homes start (suc k) = max (next_after homes start k) (homes k) + 1

-- The number of hashed indices that wrap around the end of `n` slots if they are written from the
-- first slot on.
abbrev pub passing : ℕ → List HashedIndex → ℕ
passing n entries = next_after (home_of_entry n entries) 0 (length entries) - n
