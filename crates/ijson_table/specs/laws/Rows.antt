-- Examples of collision clusters, displacements and removals, computed by hand. The hash of a
-- string is its length.
use Rattle.std.specs.Prelude.{◌≡◌, ℕ, List, [], ◌∷◌, length, refl, Some, None, map}
use Rattle.ijson_table.specs.Crowd.{crowd, homed, distance}
use Rattle.ijson_table.specs.Slots.{displacement, home_at}
use Rattle.ijson_table.specs.Store.{position_of, swap_out, keys_of}

abbrev by_length : List ℕ → ℕ
by_length key = length key

-- The keys a, bb, c and dd.
abbrev four : List (List ℕ)
four = (97 ∷ []) ∷ (98 ∷ 98 ∷ []) ∷ (99 ∷ []) ∷ (100 ∷ 100 ∷ []) ∷ []

crowd_of_z : crowd by_length four 4 (122 ∷ []) ≡ 2
unfolding crowd homed distance
crowd_of_z = refl

crowd_of_zz : crowd by_length four 4 (122 ∷ 122 ∷ []) ≡ 3
unfolding crowd homed distance
crowd_of_zz = refl

-- Without slots, the size of a collision cluster is 0.
crowd_of_none : crowd by_length [] 0 (97 ∷ []) ≡ 0
unfolding crowd homed distance
crowd_of_none = refl

-- If the first slot is empty and the next slots hold a, c, bb and dd, the displacements are 0, 1,
-- 2, 2 and 3.
displacements : map (displacement (map by_length four) (None ∷ Some 0 ∷ Some 2 ∷ Some 1 ∷ Some 3 ∷ []))
    (0 ∷ 1 ∷ 2 ∷ 3 ∷ 4 ∷ []) ≡ 0 ∷ 1 ∷ 2 ∷ 2 ∷ 3 ∷ []
unfolding displacement home_at distance
displacements = refl

last_fills_the_gap : keys_of {V = ℕ} (swap_out ((97 ∷ [], 1) ∷ (98 ∷ [], 2) ∷ (99 ∷ [], 3) ∷ []) 0) ≡ (99 ∷ []) ∷ (98 ∷ []) ∷ []
last_fills_the_gap = refl

found : position_of four (100 ∷ 100 ∷ []) ≡ Some 3
found = refl
