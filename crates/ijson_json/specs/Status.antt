-- The exit status of the program: 0 for success, 1 for rejected input, 2 for a failed read or
-- write, 3 for a failed allocation.
use Rattle.std.specs.Prelude.{ℕ, Result, Ok, Err}
use Rattle.ijson_json.specs.declared.fault.JsonError.TheVariants as json
use Rattle.ijson_json.specs.declared.compacting.CompactError.{CompactError}
use Rattle.ijson_json.specs.declared.compacting.CompactError.TheVariants as errors

-- e.g. 0 for ` [1.50, true ] `, 1 for `[1,]` and for the bytes 22 ff 22, 2 if the sink failed, 3 if
-- the memory for the value ran out.
abbrev pub status_of : Result (Unit {0}) CompactError → ℕ
status_of (Ok _) = 0
status_of (Err errors.NotUtf8) = 1
status_of (Err (errors.Json (json.Syntax _))) = 1
status_of (Err (errors.Json (json.TooDeep _))) = 1
status_of (Err (errors.Json (json.NumberRange _))) = 1
status_of (Err errors.Read) = 2
status_of (Err errors.Write) = 2
status_of (Err (errors.Json json.Memory)) = 3
status_of (Err errors.Memory) = 3
