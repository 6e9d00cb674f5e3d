-- The result of a function that reads a text: a value for the tree of the text, or an error.
use Rattle.std.specs.Prelude.{◌≡◌, ℕ, List, Result, Ok, Err, MatchResult, IfErr}
use Rattle.ijson_value.specs.Tree.{Tree}
use Rattle.ijson_json.specs.Grammar.{Accepted}
use Rattle.ijson_json.specs.Refuses.{Refuses}
use Rattle.ijson_json.specs.declared.fault.JsonError.{JsonError}
use Rattle.ijson_json.specs.declared.fault.JsonError.TheVariants.{Memory}

-- Holds for `Ok x` if `text` is accepted and `Gives` relates its tree to `x`. Holds for `Err e` if
-- `Refuses text e` holds.
abbrev pub ReadsAs : {X : Type 0} → List ℕ → (Tree → X → Type 0) → Result X JsonError → Type 0
ReadsAs text Gives (Ok x) = (tree : Tree) × Accepted text tree × Gives tree x
ReadsAs text Gives (Err e) = Refuses text e

-- Holds if the `result` for an accepted `text` is a value that `Gives` relates to its tree, or the
-- error `Memory`. If `result` is an error, it satisfies `Refuses`, also if `text` is rejected.
-- e.g. the kind of the value of `[1]` is `Array`, and for `[1` the error is `Syntax`. By the lemma
-- `total` the first states the second.
pub record IsTotal {X : Type 0} (text : List ℕ) (Gives : Tree → X → Type 0) (result : Result X JsonError) : Type 0 where
  pub read : (tree : Tree) → Accepted text tree → MatchResult result (Gives tree) (λ e. e ≡ Memory)
  pub refused : IfErr result (λ e. Refuses text e)
