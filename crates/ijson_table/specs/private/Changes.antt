-- The number of slots that a call changed.
use Rattle.std.specs.Prelude.{ℕ, ◌+◌, cond, eqb, List, [], ◌∷◌, Option}
use Rattle.std.specs.Option.{option_eq}

-- The number of slots whose resident differs between the old and the new list.
abbrev pub changes : List (Option ℕ) → List (Option ℕ) → ℕ
changes [] slots = 0
changes (o ∷ old) [] = 0
changes (o ∷ old) (n ∷ new) = cond (option_eq eqb o n) 0 1 + changes old new
