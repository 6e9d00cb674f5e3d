-- The value of a `TextTable`, and the number of buckets as it grows.
use Rattle.std.specs.Prelude.{ℕ, ◌*◌, List, [], max, nat_lt, if◌then◌else◌}
use Rattle.ijson_string.specs.declared.table.followers.Followers.{Followers}
use Rattle.ijson_string.specs.private.Followers.{no_followers}
use Rattle.ijson_string.specs.private.Keys.{Key}

-- The value of a `TextTable`: its keys in insertion order, its number of buckets, and its
-- followers.
pub record Table : Type 0 where
  pub keys : List Key
  pub buckets : ℕ
  pub followers : Followers

-- The empty table, which has not allocated.
abbrev pub no_table : Table
no_table = record { keys = []; buckets = 0; followers = no_followers }

-- The number of buckets that a table of `texts` strings and `buckets` buckets needs before a string
-- is added: `buckets` if `texts < 4 * buckets`, otherwise `2 * buckets`, but at least 16.
abbrev pub buckets_for : ℕ → ℕ → ℕ
buckets_for texts buckets = if nat_lt texts (4 * buckets) then buckets else max 16 (2 * buckets)
