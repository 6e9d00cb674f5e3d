-- The error of `compact` for each error of the reader.
use Rattle.ijson_json.specs.declared.fault.JsonError.{JsonError}
use Rattle.ijson_json.specs.declared.fault.JsonError.TheVariants as json
use Rattle.ijson_json.specs.declared.compacting.CompactError.{CompactError}
use Rattle.ijson_json.specs.declared.compacting.CompactError.TheVariants as errors

-- Wraps the reader's error in `Json`, except `Memory`, which becomes the `Memory` of
-- `CompactError`.
-- e.g. `Syntax` at 3 becomes `Json(Syntax)` at 3, and `Memory` becomes `Memory`.
abbrev pub compact_error_of : JsonError → CompactError
compact_error_of (json.Syntax at) = errors.Json (json.Syntax at)
compact_error_of (json.TooDeep at) = errors.Json (json.TooDeep at)
compact_error_of (json.NumberRange at) = errors.Json (json.NumberRange at)
compact_error_of json.Memory = errors.Memory
