-- The postconditions of an append to a buffer.
use Rattle.std.specs.Prelude.{◌≡◌, ℕ, List, ◌++◌, Option, Some, None, Result, MatchResult}
use Rattle.ijson_number.specs.AppendsBeginning.{AppendsBeginning}

-- Holds if `result` is `Ok` and `text` was appended to `before`, or `result` is `Err` and a prefix
-- of `text` was appended.
abbrev pub Appends : {T E : Type 0} → Result T E → (before after text : List ℕ) → Type 0
Appends result before after text = MatchResult result (λ _. after ≡ before ++ text) (λ _. AppendsBeginning before after text)

-- Holds if nothing was appended and `result` is `None`, or `Appends` holds for the result of the
-- append.
abbrev pub Pushed : {T E : Type 0} → Option (Result T E) → (before after text : List ℕ) → Type 0
Pushed None before after text = after ≡ before
Pushed (Some result) before after text = Appends result before after text
