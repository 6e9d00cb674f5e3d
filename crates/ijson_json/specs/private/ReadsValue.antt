-- The result of reading a value.
use Rattle.std.specs.Prelude.{◌≡◌, ℕ, List, Result, MatchResult}
use Rattle.std.specs.Borrow.{Bor}
use Rattle.ijson_string.specs.Cache.{Texts}
use Rattle.ijson_value.specs.WellFormed.{WellFormed}
use Rattle.ijson_json.specs.AddsOnlyRead.{AddsOnlyRead}
use Rattle.ijson_json.specs.AreShared.{AreShared}
use Rattle.ijson_json.specs.private.Explains.{Explains}
use Rattle.ijson_json.specs.private.Reading.{ReadAs}
use Rattle.ijson_json.specs.declared.fault.Fault.{Fault}
use Rattle.ijson_json.specs.declared.read.scratch.Scratch.{Scratch}

-- Holds if the leading value was read inside `opened` containers, the cache contains its strings
-- and keys of more than 7 bytes, and the stacks in the scratch are unchanged.
pub record ValueRead (opened : ℕ) (text : List ℕ) (cache : Texts) (old new : Scratch)
    (value : WellFormed) (rest : List ℕ) : Type 0 where
  pub read : ReadAs opened text value.tree rest
  pub shared : AreShared cache value.tree
  pub values : new.values.items ≡ old.values.items
  pub members : new.members.items ≡ old.members.items

-- Holds if `result` is the leading value and the rest of `text`, or a fault that is possible for
-- `text`. The cache gains only strings of `text`.
pub record ReadsValue (opened : ℕ) (text : List ℕ) (result : Result (WellFormed × Bor (List ℕ)) Fault)
    (old new : Texts) (before after : Scratch) : Type 0 where
  pub cache : AddsOnlyRead text old new
  pub answer : MatchResult result
      (λ x. ValueRead opened text new before after x.0 x.1.now)
      (λ fault. Explains opened text fault)
