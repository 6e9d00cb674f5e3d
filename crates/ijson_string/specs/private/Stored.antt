-- The bytes of a stored `IString`.
use Rattle.std.specs.Prelude.{ℕ, ◌<◌, ◌≤◌, List, length}
use Rattle.std.specs.Rc.{rc_value, rc_str_bytes}
use Rattle.ijson_string.specs.declared.text.Stored.{Stored}
use Rattle.ijson_string.specs.declared.text.Stored.TheVariants.{InPlace, UpTo23, UpTo39, UpTo55, UpTo71, Long}

abbrev pub stored_bytes : Stored → List ℕ
stored_bytes (InPlace text) = text
stored_bytes (UpTo23 text) = rc_value text
stored_bytes (UpTo39 text) = rc_value text
stored_bytes (UpTo55 text) = rc_value text
stored_bytes (UpTo71 text) = rc_value text
stored_bytes (Long text) = rc_str_bytes text

-- Holds if the string has up to 7 bytes and is stored inline, or is longer and is not.
abbrev pub IsStoredByLength : Stored → Type 0
IsStoredByLength (InPlace text) = length text ≤ 7
IsStoredByLength stored = 7 < length (stored_bytes stored)
