-- The meaning of each error of `compact` for the bytes read.
use Rattle.std.specs.Prelude.{ℕ, List, ⊤, IsUtf8}
use Rattle.ijson_json.specs.Refuses.{Refuses}
use Rattle.ijson_json.specs.ErrorOf.{IsErrorOf}
use Rattle.ijson_json.specs.declared.compacting.CompactError.{CompactError}
use Rattle.ijson_json.specs.declared.compacting.CompactError.TheVariants as errors

-- Holds if the error is correct for the bytes read. `NotUtf8` means that the bytes are not UTF-8.
-- `Json error` means that the bytes are UTF-8 and have this error as a JSON text. `Read`, `Write`
-- and `Memory` say nothing about the bytes.
-- e.g. `NotUtf8` of the bytes 22 ff 22: they are not UTF-8; `Json` of `[1,]`: it has no reading.
abbrev pub IsCompactRefusal : List ℕ → CompactError → Type 0
IsCompactRefusal bytes errors.NotUtf8 = ¬ (IsUtf8 bytes)
IsCompactRefusal bytes (errors.Json error) = IsUtf8 bytes × Refuses bytes error × IsErrorOf bytes error
IsCompactRefusal bytes errors.Read = ⊤
IsCompactRefusal bytes errors.Write = ⊤
IsCompactRefusal bytes errors.Memory = ⊤
