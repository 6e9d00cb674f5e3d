-- The result of reading a key of an object.
use Rattle.std.specs.Prelude.{ℕ, List, Result, MatchResult}
use Rattle.std.specs.Borrow.{Bor}
use Rattle.ijson_string.specs.Cache.{Texts}
use Rattle.ijson_json.specs.AddsOnlyRead.{AddsOnlyRead}
use Rattle.ijson_json.specs.AreShared.{IsShared}
use Rattle.ijson_json.specs.private.Explains.{KeyFault}
use Rattle.ijson_json.specs.private.Reading.{KeyRead}
use Rattle.ijson_json.specs.declared.fault.Fault.{Fault}

-- Holds if `key` was read at the start of `text`, its value begins at `cur`, and `cache` contains
-- `key` if it has more than 7 bytes.
pub record HasRead (text : List ℕ) (cache : Texts) (key cur : List ℕ) : Type 0 where
  pub read : KeyRead key text cur
  pub shared : IsShared cache key

-- Holds if `result` is the leading key and the text of its value, or a fault that is possible for
-- `text`. The cache gains only strings of `text`.
pub record ReadsKey (text : List ℕ) (result : Result (List ℕ × Bor (List ℕ)) Fault)
    (old new : Texts) : Type 0 where
  pub cache : AddsOnlyRead text old new
  pub answer : MatchResult result
      (λ x. HasRead text new x.0 x.1.now)
      (λ fault. KeyFault text fault)
