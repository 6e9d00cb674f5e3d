use Rattle.std.proofs.Common.{take}
use Rattle.ijson_json.specs.LineColumn.{Counts}
use Rattle.ijson_json.proofs.line_column.line_and_column.Given as goal

-- `lines` and `characters` are the counts for the bytes read so far.
abbrev pub invariant-loop-byte : goal.invariant-loop-byte
invariant-loop-byte l = Counts (take l.byte-index l.before) l.lines l.characters
