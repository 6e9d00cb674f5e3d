-- The contents of a buffer after a failed append.
use Rattle.std.specs.Prelude.{◌≡◌, ℕ, List, ◌++◌}

-- `after` is `before` followed by a prefix of `text`. The prefix can be empty or all of `text`.
-- e.g. appending `1.5` to `[` left `[1.`, or `[`.
pub record AppendsBeginning (before after text : List ℕ) : Type 0 where
  pub front : List ℕ
  pub rest : List ℕ
  pub is : text ≡ front ++ rest
  pub taken : after ≡ before ++ front
