-- Sources that yield a known number of entries with distinct keys.
use Rattle.std.specs.Prelude.{◌≡◌, ◌<◌, ℕ, List, Option, length}
use Rattle.ijson_table.specs.Store.{IsDistinct, keys_of}
use Rattle.ijson_value.specs.Gives.{GivesAll, GivesThen}

-- Holds if the source yields exactly `count` entries, with distinct keys.
pub record GivesDistinctPairs {U T X : Type 0} (becomes : U → T → Type 0) (steps : T → Option (List ℕ × X) → T → Type 0)
    (source : U) (count : ℕ) : Type 0 where
  pub all : (pairs : List (List ℕ × X)) → GivesAll becomes steps source pairs → IsDistinct (keys_of pairs) × (length pairs ≡ count)
  pub fewer : (pairs : List (List ℕ × X)) (next : List ℕ × X) → GivesThen becomes steps source pairs next → length pairs < count
