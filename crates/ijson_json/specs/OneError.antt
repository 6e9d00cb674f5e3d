-- Laws about the error of a text. The laws do not mention the reader.
use Rattle.std.specs.Prelude.{◌≡◌, ℕ, List}
use Rattle.ijson_value.specs.Tree.{Tree}
use Rattle.ijson_json.specs.Grammar.{Accepted}
use Rattle.ijson_json.specs.Refuses.{Refuses}
use Rattle.ijson_json.specs.ErrorOf.{IsErrorOf}
use Rattle.ijson_json.specs.declared.fault.JsonError.{JsonError}

-- A text has at most one error: any two errors are equal, including their offsets.
abbrev pub OneError : Type 0
OneError = (text : List ℕ) (e f : JsonError) → IsErrorOf text e → IsErrorOf text f → e ≡ f

-- An accepted text has no error.
abbrev pub AcceptedHasNoError : Type 0
AcceptedHasNoError = (text : List ℕ) (tree : Tree) (e : JsonError) → Accepted text tree → IsErrorOf text e → ⊥

-- The error of a text satisfies `Refuses`: the text has the fault that the error reports.
abbrev pub ErrorIsAllowed : Type 0
ErrorIsAllowed = (text : List ℕ) (e : JsonError) → IsErrorOf text e → Refuses text e
