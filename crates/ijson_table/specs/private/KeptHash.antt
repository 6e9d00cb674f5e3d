-- The part of a hash that a slot keeps: the home slot and eight more bits, or the full hash if the
-- table has more than `narrow_slots` slots.
use Rattle.std.specs.Prelude.{ℕ, ◌*◌, ◌%◌, leb, if◌then◌else◌}

-- The maximum number of slots for which slots keep only part of a hash.
abbrev pub narrow_slots : ℕ
narrow_slots = 158

-- The part of `hash` that a table of `n` slots keeps.
unfoldable pub kept : ℕ → ℕ → ℕ
kept n hash = (if leb n narrow_slots then hash % (n * 256) else hash)
