-- The result of reading a value that is not a container.
use Rattle.std.specs.Prelude.{ℕ, ◌≤◌, List, Result, MatchResult}
use Rattle.std.specs.Borrow.{Bor}
use Rattle.ijson_string.specs.Cache.{Texts}
use Rattle.ijson_value.specs.WellFormed.{WellFormed}
use Rattle.ijson_json.specs.AddsOnlyRead.{AddsOnlyRead}
use Rattle.ijson_json.specs.AreShared.{AreShared}
use Rattle.ijson_json.specs.Limits.{max_depth}
use Rattle.ijson_json.specs.private.Explains.{ScalarFault}
use Rattle.ijson_json.specs.private.Reading.{ReadAs}
use Rattle.ijson_json.specs.declared.fault.Fault.{Fault}

-- Holds if the leading value was read, inside any number of open containers up to `max_depth`.
-- `cache` contains the value's string if it has more than 7 bytes.
pub record ScalarRead (text : List ℕ) (cache : Texts) (value : WellFormed) (rest : List ℕ) : Type 0 where
  pub read : (opened : ℕ) → opened ≤ max_depth → ReadAs opened text value.tree rest
  pub shared : AreShared cache value.tree

-- Holds if `result` is the leading value and the rest of `text`, or a fault that is possible for
-- `text`. The cache gains only strings of `text`.
pub record ReadsScalar (text : List ℕ) (result : Result (WellFormed × Bor (List ℕ)) Fault)
    (old new : Texts) : Type 0 where
  pub cache : AddsOnlyRead text old new
  pub answer : MatchResult result
      (λ x. ScalarRead text new x.0 x.1.now)
      (λ fault. ScalarFault text fault)
