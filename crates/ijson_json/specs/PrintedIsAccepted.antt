-- A law of the grammar and the printer. The law does not mention the reader.
use Rattle.std.specs.Prelude.{◌≤◌}
use Rattle.ijson_value.specs.Tree.{Tree, depth}
use Rattle.ijson_value.specs.WellFormed.{IsWellFormed}
use Rattle.ijson_json.specs.Grammar.{Accepted}
use Rattle.ijson_json.specs.Limits.{max_depth}
use Rattle.ijson_json.specs.Print.{print}

-- If a well-formed tree is within the nesting limit, its printed text is accepted and reads as the
-- same tree.
-- e.g. the tree of ` [1.50] ` prints as `[1.5]`, which is accepted as the same tree.
abbrev pub PrintedIsAccepted : Type 0
PrintedIsAccepted = (t : Tree) → IsWellFormed t → depth t ≤ max_depth → Accepted (print t) t
