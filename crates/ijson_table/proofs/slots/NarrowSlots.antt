-- In a table of at most `narrow_slots` slots, each index and the kept part of each hash fit a
-- narrow slot of three bytes.
use Rattle.std.proofs.Common.{◌≡◌, ℕ, zero, suc, ◌+◌, ◌*◌, ◌%◌, ◌<◌, ◌≤◌, Option, Some, None, arith}
use Rattle.std.proofs.Math.Nat.{mod-lt}
use Rattle.ijson_table.specs.declared.slot.Slot.{Slot}
use Rattle.ijson_table.specs.declared.sorting.order.HashedIndex.{HashedIndex}
use Rattle.ijson_table.specs.private.Entries.{slot_for}
use Rattle.ijson_table.specs.private.KeptHash.{narrow_slots, kept}
use Rattle.ijson_table.specs.private.Narrow.{Fits, MayHold}
use Rattle.ijson_table.specs.private.SlotHashes.{coded_position, position_in}
use Rattle.ijson_table.proofs.slots.KeptHashes.{kept-narrow}

-- The code of index `i` is `i + 1`.
pub code-of : (code i : ℕ) → coded_position code ≡ Some i → code ≡ i + 1
code-of zero i e = let bad : ◌≡◌ {A = Option ℕ} None (Some i) = e in cc
code-of (suc k) i e =
    let is : ◌≡◌ {A = Option ℕ} (Some k) (Some i) = e in
    let same : k ≡ i = cc in
    omega (arith, same)

-- A slot with the index and the hash of `entry` is `slot_for entry`.
pub slot_is : (slot : Slot) (entry : HashedIndex) → position_in slot ≡ Some entry.index → slot.hash ≡ entry.hash → slot ≡ slot_for entry
slot_is slot entry at same = let code : slot.code ≡ suc entry.index = omega (arith, code-of slot.code entry.index at) in
    λ k. record { code = code k; hash = same k }

-- A slot fits a table of `n` slots if its index and its hash fit.
pub fits_at : (n : ℕ) (slot : Slot) (i : ℕ) → position_in slot ≡ Some i → (n ≤ narrow_slots → i + 1 < 256)
    → (n ≤ narrow_slots → slot.hash < 65536)
    → Fits n slot
fits_at n slot i at position hash few = (omega (arith, code-of slot.code i at, position few), hash few)

-- In a table of at most `narrow_slots` slots, the kept part of a hash is below `n * 256`.
kept-within : (n h : ℕ) → n ≤ narrow_slots → 0 < n → kept n h < n * 256
kept-within n h few some =
    let below : h % (n * 256) < n * 256 = mod-lt h (omega (arith, some)) in
    omega (arith, kept-narrow n h few, below)

-- The kept part of a hash fits a slot with any index below the number of slots.
pub may_hold : (n position part h : ℕ) → part ≡ kept n h → position < n → MayHold n position part
may_hold n position part h is room few =
    (omega (arith, few, room), omega (arith, few, is, kept-within n h few (omega (arith, room))))
