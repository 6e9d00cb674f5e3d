-- The invariant `IsCache`: each key has the hash of its string, and no string occurs twice.
-- `set_of` is the set of the strings of all keys.
use Rattle.std.specs.Prelude.{◌≡◌, ℕ, List, length}
use Rattle.std.specs.Ordering.{nat_cmp}
use Rattle.std.specs.Cmp.Lexicographic.{slice_cmp}
use Rattle.std.specs.FinSet as set
use Rattle.ijson_string.specs.private.Keys.{Key, texts_of, AreHashed}

abbrev pub set_of : List Key → set.FinSet (slice_cmp nat_cmp)
set_of keys = set.from_list (texts_of keys)

pub record IsCache (text_hash : List ℕ → ℕ) (keys : List Key) : Type 0 where
  pub hashed : AreHashed text_hash keys
  pub each_once : set.len (set_of keys) ≡ length keys
