-- The slots of a table: each is empty or holds the index of a key. Residents are ordered by probe
-- distance, as in Robin Hood hashing.
use Rattle.std.specs.Prelude.{◌≡◌, ◌≢◌, ℕ, ◌+◌, ◌%◌, ◌<◌, ◌≤◌, Bool, false, eqb, ltb, List}
use Rattle.std.specs.Prelude.{length, get_or, count_by, Option, Some, None, if◌then◌else◌}
use Rattle.ijson_table.specs.Crowd.{distance, crowd}

-- The slot after slot `p` of `n`, wrapping around.
unfoldable pub after : ℕ → ℕ → ℕ
after n p = (if eqb (p + 1) n then 0 else p + 1)

-- The resident of slot `p`, or `None` if the slot is empty.
abbrev pub resident : List (Option ℕ) → ℕ → Option ℕ
resident slots p = get_or slots p None

-- The home slot of the key at index `i` among `n` slots, by the hashes of the keys.
unfoldable pub home_at : ℕ → List ℕ → ℕ → ℕ
home_at n hashes i = get_or hashes i 0 % n

-- The displacement of a resident `i` of slot `p`: its probe distance plus one. The displacement of
-- an empty slot is 0.
abbrev pub displaced : ℕ → List ℕ → ℕ → Option ℕ → ℕ
displaced n hashes p None = 0
displaced n hashes p (Some i) = distance n (home_at n hashes i) p + 1

-- The displacement of the resident of slot `p`, or 0 if the slot is empty.
-- e.g. a, b, c with home 0 in slots 0, 1, 2 are displaced 1, 2, 3; after slot 2 comes slot 0.
unfoldable pub displacement : List ℕ → List (Option ℕ) → ℕ → ℕ
displacement hashes slots p = displaced (length slots) hashes p (resident slots p)

-- Returns `true` if the slot's resident is index `i`.
abbrev pub holds : ℕ → Option ℕ → Bool
holds i None = false
holds i (Some j) = eqb i j

-- The number of slots that hold index `i`.
unfoldable pub times : ℕ → List (Option ℕ) → ℕ
times i slots = count_by (holds i) slots

-- How often a table of `count` keys holds index `i`: 1 if `i` is below `count`, else 0.
-- e.g. if the slots hold 1, 0 and nothing, index 1 is held once and index 2 never.
abbrev pub below : ℕ → ℕ → ℕ
below count i = (if ltb i count then 1 else 0)

-- Holds if the displacement grows by at most 1 from each slot to the next, wrapping around. A
-- resident after an empty slot is therefore in its home slot.
abbrev pub IsOrdered : List ℕ → List (Option ℕ) → Type 0
IsOrdered hashes slots =
    (p : ℕ) → p < length slots
    → displacement hashes slots (after (length slots) p) ≤ displacement hashes slots p + 1

-- The invariant of the slots of a table whose keys have these hashes.
-- e.g. keys of one home in slots 0, 1, 2 are a table; with slot 1 empty and one of them in slot 2
-- they are not.
pub record IsTable (hashes : List ℕ) (slots : List (Option ℕ)) : Type 0 where
  pub ordered : IsOrdered hashes slots
  -- Each index of a key is in exactly one slot, and no other index is in any slot.
  pub placed : (i : ℕ) → times i slots ≡ below (length hashes) i

-- Holds if `looks` is within the bounds on the inspections of a lookup for `key`.
-- e.g. in 3 full slots, all of home 0, a missing key takes at most 3 inspections.
pub record IsBounded (hash : List ℕ → ℕ) (keys : List (List ℕ)) (slots : List (Option ℕ)) (c : ℕ) (key : List ℕ) (looks : ℕ) : Type 0 where
  -- If a slot is empty, `looks` exceeds the size of the collision cluster by at most 1.
  pub some_empty : (p : ℕ) → p < length slots → resident slots p ≡ None → looks ≤ crowd hash keys c key + 1
  -- If no slot is empty, `looks` is at most the number of keys.
  pub none_empty : ((p : ℕ) → p < length slots → resident slots p ≢ None) → looks ≤ length keys
  -- In every case, `looks` exceeds the number of keys by at most 1.
  pub always : looks ≤ length keys + 1
  -- If the table has a slot, at least one slot is inspected.
  pub some_look : 0 < length slots → 0 < looks
