-- An index may be inserted at the slot at which its probe ends.
use Rattle.std.proofs.Common.{◌≡◌, ◌%◌, ◌<◌, ℕ, List, length, get_or, arith, ap, sym, subst, ◌∙◌}
use Rattle.std.proofs.Math.Nat.{mod-lt}
use Rattle.ijson_table.specs.declared.slot.Slot.{Slot}
use Rattle.ijson_table.specs.Slots.{displacement, home_at}
use Rattle.ijson_table.specs.private.Holds.{MayStand}
use Rattle.ijson_table.specs.private.SlotHashes.{displacement_in, positions, HaveHashes}
use Rattle.ijson_table.specs.private.Probe.{onward, IsVacancy}
use Rattle.ijson_table.proofs.shifting.Insertion.{may_end}
use Rattle.ijson_table.proofs.slots.HashesInSlots.{positions-length, displacement-in}
use Rattle.ijson_table.proofs.arithmetic.Circular.{onward-below}

-- The home slot of an index is the hash of its key modulo the number of slots.
pub home_here : (hashes : List ℕ) (slots : List Slot) (position hash : ℕ) → hash ≡ get_or hashes position 0
    → hash % length slots ≡ home_at (length (positions slots)) hashes position
unfolding home_at
home_here hashes slots position hash is = ap (λ x. x % length slots) is ∙ ap (λ n. get_or hashes position 0 % n) (sym (positions-length slots))

-- Index `position` may be inserted at the slot at which the probe for its hash ends.
pub may_stand : (hashes : List ℕ) (slots : List Slot) (position hash p : ℕ) → hash ≡ get_or hashes position 0
    → HaveHashes (length slots) hashes slots → IsVacancy (displacement_in slots) (length slots) (hash % length slots) p
    → MayStand hashes (positions slots) position p
may_stand hashes slots position hash p is have vacancy =
    let n : ℕ = length slots in
    let k : ℕ = length (positions slots) in
    let m : ℕ = vacancy.0 in
    let size : n ≡ k = sym (positions-length slots) in
    let h : ℕ = home_at k hashes position in
    let home : hash % n ≡ h = home_here hashes slots position hash is in
    let lh : hash % n < n = mod-lt hash (omega (arith, vacancy.1)) in
    let to : (j : ℕ) → onward n (hash % n) j ≡ onward k h j = λ j. ap (λ x. onward x (hash % n) j) size ∙ ap (λ x. onward k x j) home in
    let at : (j : ℕ) → j < n → displacement_in slots (onward n (hash % n) j) ≡ displacement hashes (positions slots) (onward k h j) =
    λ j lj. displacement-in hashes slots (onward n (hash % n) j) have (onward-below n (hash % n) j lh (omega arith))
    ∙ ap (displacement hashes (positions slots)) (to j) in
    subst (MayStand hashes (positions slots) position) (sym (vacancy.2 ∙ to m))
    (may_end hashes (positions slots) position m (omega (arith, vacancy.1, size)) (omega (arith, lh, home, size))
    (record { far = λ j lj. omega (arith, vacancy.3.far j lj, at j (omega (arith, lj, vacancy.1))) })
    (omega (arith, vacancy.4, at m vacancy.1, ap (displacement_in slots) vacancy.2)))
