-- Errors with the line and column of their offset, and their messages.
use Rattle.std.specs.Prelude.{ℕ, List, ◌++◌, codes, take, ⊤}
use Rattle.std.specs.Fmt.{decimal}
use Rattle.ijson_json.specs.LineColumn.{Follows}
use Rattle.ijson_json.specs.declared.fault.JsonError.{JsonError}
use Rattle.ijson_json.specs.declared.fault.JsonError.TheVariants as why
use Rattle.ijson_json.specs.declared.located.LocatedError.{LocatedError}
use Rattle.ijson_json.specs.declared.located.LocatedError.TheVariants.{Syntax, TooDeep, NumberRange, Memory}

-- Holds if both errors have the same reason, and the line and column are the position of the offset
-- in `text`.
-- e.g. `Syntax` at 3 of `[1 2]` is `Syntax` at line 1 and column 4.
abbrev pub Locates : List ℕ → JsonError → LocatedError → Type 0
Locates text (why.Syntax at) (Syntax place) = Follows (take at text) place.line place.column
Locates text (why.TooDeep at) (TooDeep place) = Follows (take at text) place.line place.column
Locates text (why.NumberRange at) (NumberRange place) = Follows (take at text) place.line place.column
Locates text why.Memory Memory = ⊤
Locates text _ _ = ⊥

abbrev pub place_text : ℕ → ℕ → List ℕ
place_text line column = codes "line " ++ (decimal line ++ (codes ", column " ++ decimal column))

-- e.g. `syntax at line 1, column 4`.
abbrev pub message : LocatedError → List ℕ
message (Syntax place) = codes "syntax at " ++ place_text place.line place.column
message (TooDeep place) = codes "nesting too deep at " ++ place_text place.line place.column
message (NumberRange place) = codes "number out of range at " ++ place_text place.line place.column
message Memory = codes "out of memory"
