-- Indices after an element is moved. The indices in between change by one.
use Rattle.std.specs.Prelude.{ℕ, ◌+◌, ◌-◌, eqb, leb, ltb, if◌then◌else◌}
use Rattle.ijson_table.specs.declared.slot.Slot.{Slot}

-- The new index of the element at index `i` if the element at index `from` is moved to index `to`.
abbrev pub moved : ℕ → ℕ → ℕ → ℕ
moved from to i =
    (if eqb i from then to else (if ltb from i then (if leb i to then i - 1 else i) else (if leb to i then i + 1 else i)))

-- The slot, renumbered for a move of the element at index `from` to index `to`.
abbrev pub renumbered : ℕ → ℕ → Slot → Slot
renumbered from to slot = record { code = moved (from + 1) (to + 1) slot.code; hash = slot.hash }
