-- The walk of a probe, from a home slot to the target, an empty slot, or a resident closer to its
-- own home slot.
use Rattle.std.specs.Prelude.{◌≡◌, ◌≢◌, ℕ, ◌+◌, ◌-◌, ◌<◌, ◌≤◌, Bool, true, false, ltb, List, length, Option, Some, None, if◌then◌else◌}
use Rattle.ijson_table.specs.declared.slot.Seen.{Seen}
use Rattle.ijson_table.specs.declared.slot.Seen.TheVariants.{Empty, Resident}
use Rattle.ijson_table.specs.declared.index.probe.Probed.{Probed}
use Rattle.ijson_table.specs.declared.index.probe.Probed.TheVariants.{Found, Vacant, Full}
use Rattle.ijson_table.specs.Slots.{resident}

-- The slot that is `k` slots after slot `p` of `n`, wrapping around.
unfoldable pub onward : ℕ → ℕ → ℕ → ℕ
onward n p k = (if ltb (p + k) n then p + k else p + k - n)

-- Holds if the `m` slots from slot `p` on all have residents, wrapping around.
abbrev pub AreFull : List (Option ℕ) → ℕ → ℕ → Type 0
AreFull slots p m = (j : ℕ) → j < m → resident slots (onward (length slots) p j) ≢ None

-- Holds if inspecting slot `p` in a probe returns this `Seen`. `Empty` means that the slot is
-- empty. Otherwise, `i` is the resident, `d` is its probe distance, and `same` is whether it is the
-- target.
abbrev pub LooksAt : List (Option ℕ) → (ℕ → ℕ) → (ℕ → Bool) → ℕ → Seen → Type 0
LooksAt slots displacements seeks p Empty = (resident slots p ≡ None) × (displacements p ≡ 0)
LooksAt slots displacements seeks p (Resident i d same) =
    (resident slots p ≡ Some i) × (displacements p ≡ d + 1) × (same ≡ seeks i)

-- Holds if a probe from home slot `h` passes the first `m` of `n` slots: each of these `m` slots
-- has a resident that is displaced at least as far as the target would be in that slot.
pub record Passed (displacements : ℕ → ℕ) (n h m : ℕ) : Type 0 where
  pub far : (j : ℕ) → j < m → j + 1 ≤ displacements (onward n h j)

-- Holds if the target is not in the first `m` slots of a probe from home slot `h`.
abbrev pub PassedOthers : List (Option ℕ) → (ℕ → Bool) → ℕ → ℕ → Type 0
PassedOthers slots seeks h m =
    (j i : ℕ) → j < m → resident slots (onward (length slots) h j) ≡ Some i → seeks i ≡ false

-- Holds if a probe from home slot `h` ended at slot `p` after it passed `m` slots, with one
-- inspection of each slot.
pub record EndsAt (slots : List (Option ℕ)) (displacements : ℕ → ℕ) (h : ℕ) (seeks : ℕ → Bool) (looks p m : ℕ) : Type 0 where
  pub within : m < length slots
  pub there : p ≡ onward (length slots) h m
  pub passed : Passed displacements (length slots) h m
  pub others : PassedOthers slots seeks h m
  pub looked : looks ≡ m + 1

-- Holds if a probe from home slot `h` may end this way after `looks` inspections. `Found` means
-- that slot `p` has the target. `Vacant` means that slot `p` is empty, or that its resident is
-- closer to its home slot than the probe is. `Full` means that the probe passed all slots.
abbrev pub Ends : List (Option ℕ) → (ℕ → ℕ) → ℕ → (ℕ → Bool) → ℕ → Probed → Type 0
Ends slots displacements h seeks looks (Found at p) =
    (m : ℕ) × EndsAt slots displacements h seeks looks p m
    × (resident slots p ≡ Some at) × (seeks at ≡ true)
Ends slots displacements h seeks looks (Vacant p) =
    (m : ℕ) × EndsAt slots displacements h seeks looks p m × (displacements p ≤ m)
Ends slots displacements h seeks looks Full =
    Passed displacements (length slots) h (length slots)
    × PassedOthers slots seeks h (length slots) × (looks ≡ length slots)

-- Holds if a probe from home slot `h` for a missing key ends at slot `p`.
abbrev pub IsVacancy : (ℕ → ℕ) → ℕ → ℕ → ℕ → Type 0
IsVacancy displacements n h p =
    (m : ℕ) × (m < n) × (p ≡ onward n h m) × Passed displacements n h m × (displacements p ≤ m)
