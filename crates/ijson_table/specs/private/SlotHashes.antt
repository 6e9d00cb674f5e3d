-- The contents of a slot: an index, and the hash of its key.
use Rattle.std.specs.Prelude.{◌≡◌, ℕ, zero, suc, ◌+◌, ◌%◌, Bool, List, map, length, get_or, Option, Some, None}
use Rattle.std.specs.List.{All}
use Rattle.ijson_table.specs.declared.slot.Slot.{Slot}
use Rattle.ijson_table.specs.declared.slot.Seen.{Seen}
use Rattle.ijson_table.specs.declared.slot.Seen.TheVariants.{Empty, Resident}
use Rattle.ijson_table.specs.Crowd.{distance}
use Rattle.ijson_table.specs.private.KeptHash.{kept}

-- The index in a slot with this code: `None` for code 0, else the code minus one.
abbrev pub coded_position : ℕ → Option ℕ
coded_position zero = None
coded_position (suc i) = Some i

-- The index in `slot`, or `None` if the slot is empty.
abbrev pub position_in : Slot → Option ℕ
position_in slot = coded_position slot.code

-- The resident of each slot.
abbrev pub positions : List Slot → List (Option ℕ)
positions slots = map position_in slots

-- Holds if `slot` is empty or has the part of its key's hash that a table of `n` slots keeps.
abbrev pub HasHash : ℕ → List ℕ → Slot → Type 0
HasHash n hashes slot = (i : ℕ) → position_in slot ≡ Some i → slot.hash ≡ kept n (get_or hashes i 0)

-- Holds if every slot that has an index has the kept part of its key's hash.
abbrev pub HaveHashes : ℕ → List ℕ → List Slot → Type 0
HaveHashes n hashes slots = All (HasHash n hashes) slots

-- The empty slot, the default for reads past the end.
abbrev pub blank : Slot
blank = record { code = 0; hash = 0 }

-- The displacement of the resident of slot `p` of `n`, by the hash in the slot, or 0 if the slot is
-- empty.
abbrev pub displaced_by : ℕ → ℕ → Slot → ℕ → ℕ
displaced_by n p slot zero = 0
displaced_by n p slot (suc i) = distance n (slot.hash % n) p + 1

-- The displacement of the resident of slot `p`, by the hash in the slot.
unfoldable pub displacement_in : List Slot → ℕ → ℕ
displacement_in slots p = displaced_by (length slots) p (get_or slots p blank) (get_or slots p blank).code

-- Holds if inspecting `slot`, which is slot `p` of `n`, returns this `Seen`. `same` is whether its
-- resident is the target.
abbrev pub SeenAs : Slot → ℕ → ℕ → Bool → Seen → Type 0
SeenAs slot n p same Empty = position_in slot ≡ None
SeenAs slot n p same (Resident i d sought) =
    (position_in slot ≡ Some i) × (d ≡ distance n (slot.hash % n) p) × (sought ≡ same)
