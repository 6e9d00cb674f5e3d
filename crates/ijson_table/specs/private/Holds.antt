-- Slots during an insertion or a removal.
use Rattle.std.specs.Prelude.{◌≡◌, ℕ, ◌+◌, ◌<◌, ◌≤◌, cond, List, length, Option, Some, None}
use Rattle.ijson_table.specs.Crowd.{distance}
use Rattle.ijson_table.specs.Slots.{after, displacement, resident, home_at, holds, times, IsOrdered}

-- 1 if the resident `o` is index `i`, else 0.
abbrev pub one_if : ℕ → Option ℕ → ℕ
one_if i o = cond (holds i o) 1 0

-- Holds if some slot is empty.
abbrev pub HasEmpty : List (Option ℕ) → Type 0
HasEmpty slots = (p : ℕ) × (p < length slots) × (resident slots p ≡ None)

-- Holds if the slots are ordered and hold each index `i` exactly `wanted i` times. The `pending`
-- index counts as held once more.
pub record Holds (hashes : List ℕ) (wanted : ℕ → ℕ) (pending : Option ℕ) (slots : List (Option ℕ)) : Type 0 where
  pub ordered : IsOrdered hashes slots
  pub placed : (i : ℕ) → times i slots + one_if i pending ≡ wanted i

-- The number of slots that hold index `i`, plus 1 if `i` is `k`.
abbrev pub with_one : List (Option ℕ) → ℕ → ℕ → ℕ
with_one slots k i = times i slots + one_if i (Some k)

-- Holds if inserting index `i` at slot `p` keeps the slots ordered. The resident of `p` is not
-- displaced further than `i` would be in `p`. In `p`, `i` is displaced at most one slot further
-- than the resident of the previous slot.
pub record MayStand (hashes : List ℕ) (slots : List (Option ℕ)) (i p : ℕ) : Type 0 where
  pub within : p < length slots
  pub further : displacement hashes slots p ≤ distance (length slots) (home_at (length slots) hashes i) p + 1
  pub led_to : (q : ℕ) → q < length slots → after (length slots) q ≡ p
      → distance (length slots) (home_at (length slots) hashes i) p ≤ displacement hashes slots q
