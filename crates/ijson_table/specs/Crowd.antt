-- The size of the collision cluster of a key, for any hash and any keys.
use Rattle.std.specs.Prelude.{ℕ, zero, suc, ◌+◌, ◌-◌, ◌/◌, ◌%◌, leb, max, List, count_by, if◌then◌else◌}

-- The number of slots of a table of capacity `c`: five for every four entries.
abbrev pub slot_count : ℕ → ℕ
slot_count c = c + c / 4

-- The home slot of `key` among `n` slots.
abbrev pub home_of : (List ℕ → ℕ) → ℕ → List ℕ → ℕ
home_of hash n key = hash key % n

-- The number of slots from slot `from` to slot `to` of `n`, wrapping around.
-- e.g. 3 slots for capacity 3, 5 for 4, 10 for 8, 12 for 10; from slot 2 to slot 0 of 3 the
-- distance is 1.
unfoldable pub distance : ℕ → ℕ → ℕ → ℕ
distance n from to = (if leb from to then to - from else to + n - from)

-- The number of keys with their home slot among the `s + 1` slots that end at `slot`.
unfoldable pub homed : (List ℕ → ℕ) → ℕ → List (List ℕ) → ℕ → ℕ → ℕ
homed hash n keys slot s = count_by (λ key. leb (distance n (home_of hash n key) slot) s) keys

-- The maximum of `f` at the numbers below `m`, or 0 if `m` is 0.
abbrev pub greatest_below : ℕ → (ℕ → ℕ) → ℕ
greatest_below zero f = 0
greatest_below (suc m) f = max (f m) (greatest_below m f)

-- The size of the collision cluster of the home slot of `key` in a table of capacity `c`: the
-- maximum of `homed - s` over all `s` below the number of slots. `homed` counts the keys with their
-- home slot among the `s + 1` slots that end at the home slot of `key`.
-- e.g. three keys with home 0 among 3 slots: the crowd there is 3; one key at its home, none pushed
-- in from before: 1.
unfoldable pub crowd : (List ℕ → ℕ) → List (List ℕ) → ℕ → List ℕ → ℕ
crowd hash keys c key =
    greatest_below (slot_count c) (λ s. homed hash (slot_count c) keys (home_of hash (slot_count c) key) s - s)
