-- The part of a text that was written before a failure.
use Rattle.std.specs.Prelude.{◌≡◌, ◌≢◌, ℕ, List, [], ◌++◌, Option}
use Rattle.std.specs.Io.KnownBytes.{Appends}

-- Holds if a proper prefix of `text` was appended to the bytes `before`, if these are known.
-- e.g. `[1` is a proper prefix of `[1]`, and so is nothing; all of it is not.
pub record WritesBeginning (before after : Option (List ℕ)) (text : List ℕ) : Type 0 where
  pub front : List ℕ
  pub rest : List ℕ
  pub is : text ≡ front ++ rest
  pub unfinished : rest ≢ []
  pub taken : Appends before after front
