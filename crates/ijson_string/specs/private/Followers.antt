-- A prediction of the next string to be interned. Slots record, by index and length, which string
-- followed which.
use Rattle.std.specs.Prelude.{◌≡◌, ◌-◌, ℕ, ◌%◌, ◌^◌, get_or, min, replicate, slice_set}
use Rattle.ijson_string.specs.declared.table.followers.Follower.{Follower}
use Rattle.ijson_string.specs.declared.table.followers.Followers.{Followers}

-- The number of slots.
abbrev pub follower_slots : ℕ
follower_slots = 128

-- The content of a slot that was never written.
abbrev pub no_follower : Follower
no_follower = record { position = 0; len = 0 }

-- The initial followers, in which no slot was written.
abbrev pub no_followers : Followers
no_followers = record { slots = replicate follower_slots no_follower; last = 0; next = no_follower }

-- Holds if the string that last followed the current string has the index `position` and the length
-- `len`.
abbrev pub IsFollower : ℕ → ℕ → Followers → Type 0
IsFollower position len followers = followers.next ≡ record { position = position; len = len }

-- Records in the followers that the string at index `position`, of length `len`, followed the last
-- string.
abbrev pub followed_by : ℕ → ℕ → Followers → Followers
followed_by position len followers =
    let slots = slice_set followers.slots (followers.last % follower_slots) (record { position = position; len = min len (2 ^ 32 - 1) }) in
    record { slots = slots; last = position; next = get_or slots (position % follower_slots) no_follower }
