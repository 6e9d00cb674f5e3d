use Rattle.std.proofs.Common.{false, ◌≡◌, ◌≢◌, ℕ, ◌+◌, ◌%◌, ◌<◌, ◌≤◌, List, length, get_or, set, Option, Some, None, arith, ap, refl, sym, ◌∙◌, subst}
use Rattle.std.proofs.lemmas.List.{length-set}
use Rattle.ijson_table.specs.declared.slot.Slot.{Slot}
use Rattle.ijson_table.specs.Crowd.{distance}
use Rattle.ijson_table.specs.Slots.{after, displacement, resident, times, IsOrdered}
use Rattle.ijson_table.specs.private.Holds.{one_if}
use Rattle.ijson_table.specs.private.SlotHashes.{position_in, positions, blank, HasHash}
use Rattle.ijson_table.proofs.arithmetic.Circular.{after-below}
use Rattle.ijson_table.proofs.probing.KeyHashes.{hash_at, hashes as key_hashes, length-hashes}
use Rattle.ijson_table.proofs.probing.ProbePath.{displacement-none, placed_at}
use Rattle.ijson_table.proofs.shifting.BackwardShift.{gap_closed, gap_within, moved_back, times-moved_back, shift_falls, all_displacements, HasGap}
use Rattle.ijson_table.proofs.slots.HashesInSlots.{positions-length, positions-put, positions-set, position-at, nothing_has_hash, hashes-at}
use Rattle.ijson_table.proofs.slots.HashesInSlots.{hashes-written, displacement-read}
use Rattle.ijson_table.proofs.slots.Residents.{some_position, times-set}
use Rattle.ijson_table.proofs.index.shift.remove_index.Given.{Over}
use Rattle.ijson_table.proofs.index.shift.remove_index.Invariants.{HasGapAt}
use Rattle.ijson_table.proofs.index.shift.remove_index.Goals.{After-is_empty, After-len, After-set-in-loop-behind-2, then-is_empty-via-then-is_empty}
use Rattle.ijson_table.proofs.index.shift.remove_index.Goals.{then-is_empty-via-else-is_empty+then-distance_between-eq0}
use Rattle.ijson_table.proofs.index.shift.remove_index.Goals as goal

-- `next` is the slot after the gap, and `behind` is its contents.
module _ (hashes : List ℕ) (gone count : ℕ) (slots : List Slot) (gap : ℕ) (was : HasGapAt hashes gone count slots gap) (next : ℕ)
    (behind : Slot) (to : next ≡ after count gap) (read : behind ≡ get_or slots next blank) where
  abbrev ps : List (Option ℕ)
  ps = positions slots

  reached : after (length ps) gap ≡ next
  reached = ap (λ n. after n gap) (positions-length slots ∙ was.size) ∙ sym to

  within : next < length slots
  within = omega (arith, after-below (length ps) gap (gap_within hashes ps gap was.gap_is), reached, positions-length slots)

  -- If the next slot is empty or its resident is in its home slot, the slots are ordered.
  closed : displacement hashes ps next ≤ 1 → IsOrdered hashes ps
  closed end = gap_closed hashes ps gap was.gap_is (omega (arith, end, ap (displacement hashes ps) reached))

  -- If the next slot is empty, the slots are ordered.
  ended : position_in behind ≡ None → IsOrdered hashes ps
  ended none = closed (omega (arith, displacement-none hashes ps next (position-at slots next None within (sym none ∙ ap position_in read))))

  -- `k` is the resident of the next slot, and `far` is its distance from its home slot.
  module _ (k far : ℕ) (stands : position_in behind ≡ Some k) (is : far ≡ distance count (behind.hash % count) next) where
    seen : Some k ≡ position_in (get_or slots next blank)
    seen = sym stands ∙ ap position_in read

    displaced : displacement hashes ps next ≡ far + 1
    displaced = displacement-read hashes slots next k far was.hashes_are within seen (cc (is, read, was.size))

    module _ (some : far ≢ 0) where
      abbrev now : List Slot
      now = set (set slots gap behind) next blank

      moved : positions now ≡ set (set ps gap (Some k)) (after (length ps) gap) None
      moved = positions-set (set slots gap behind) next blank ∙ (ap (λ qs. set qs next None) (positions-put slots gap behind k stands)
          ∙ ap (λ p. set (set ps gap (Some k)) p None) (sym reached))

      there : resident ps (after (length ps) gap) ≡ Some k
      there = ap (resident ps) reached ∙ position-at slots next (Some k) within seen

      away : 1 < displacement hashes ps (after (length ps) gap)
      away = omega (arith, some, displaced, ap (displacement hashes ps) reached)

      -- If the resident is not in its home slot, moving it into the gap moves the gap to the next
      -- slot.
      goes_on : HasGapAt hashes gone count now next
      goes_on = record {
        gap_is = subst (λ qs. HasGap hashes qs next) (sym moved) (subst (HasGap hashes (set (set ps gap (Some k)) (after (length ps) gap) None)) reached
            (moved_back hashes ps gap was.gap_is k there away));
        placed = λ i. omega (arith, was.placed i, ap (times i) moved, times-moved_back hashes ps gap was.gap_is k there away i);
        hashes_are = hashes-written hashes (set slots gap behind) next blank (nothing_has_hash _ hashes blank refl)
            (hashes-written hashes slots gap behind (subst (HasHash (length slots) hashes) (sym read)
            (hashes-at (length slots) hashes slots next was.hashes_are within)) was.hashes_are);
        size = length-set (set slots gap behind) next blank ∙ (length-set slots gap behind ∙ was.size);
      }

      -- Moving the resident into the gap decreases the sum of the displacements.
      falls : all_displacements hashes (positions now) < all_displacements hashes ps
      falls = subst (λ qs. all_displacements hashes qs < all_displacements hashes ps) (sym moved)
          (shift_falls hashes ps gap was.gap_is k there away)

-- Index `position` is in a slot.
stood : (g : Over) (c : After-len g) → (p : ℕ) × (p < length (positions c.args.slots.now)) × (resident (positions c.args.slots.now) p ≡ Some c.args.position)
stood g c = placed_at (key_hashes g.H.KeyHash.hash_of c.args.pairs.now) (positions c.args.slots.now) c.requires.table.table c.args.position
    (omega (arith, c.requires.within, length-hashes g.H.KeyHash.hash_of c.args.pairs.now))

pub new-modulus-requires : goal.new-modulus-requires
new-modulus-requires g c =
    omega (arith, (stood g (goal.at.new-modulus-requires g c).After-len).1, positions-length c.args.slots.now, c.len.ensures)

pub slot_of-gap-requires : goal.slot_of-gap-requires
slot_of-gap-requires g c = record {
  counted = c.new-modulus.ensures ∙ c.len.ensures;
  stands = (
    key_hashes g.H.KeyHash.hash_of c.args.pairs.now,
    record {
      hash_is = hash_at g.H.KeyHash.hash_of c.args.pairs.now c.args.position c.index-pairs-position.result c.hash.result c.requires.within
          (c.hash.ensures ∙ ap g.H.KeyHash.hash_of c.as_str.ensures);
      hashes_are = c.requires.table.hashes_are;
      ordered = c.requires.table.table.ordered;
      stands = stood g (goal.at.slot_of-gap-requires g c).After-len;
    },
  );
}

pub loop-behind-init : goal.loop-behind-init
loop-behind-init g c =
    let hashes = key_hashes g.H.KeyHash.hash_of c.args.pairs.now in
    let slots = c.args.slots.now in
    let gap : ℕ = c.slot_of-gap.result in
    let lp : gap < length (positions slots) = omega (arith, c.slot_of-gap.ensures.within, positions-length slots) in
    let left : HasGapAt hashes c.args.position c.new-modulus.result.count (set slots gap blank) gap = record {
      gap_is = record { whole = positions slots; is = positions-set slots gap blank; within = lp; ordered = c.requires.table.table.ordered };
      placed = λ i. omega (
        arith,
        ap (times i) (positions-set slots gap blank),
        times-set i (positions slots) gap None lp,
        ap (one_if i) c.slot_of-gap.ensures.there,
        c.requires.table.table.placed i,
      );
      hashes_are = hashes-written hashes slots gap blank (nothing_has_hash _ hashes blank refl) c.requires.table.hashes_are;
      size = length-set slots gap blank ∙ sym (c.new-modulus.ensures ∙ c.len.ensures);
    } in
    subst (λ qs. HasGapAt hashes c.args.position c.new-modulus.result.count qs gap) (sym c.set.ensures) left

-- If the next slot is not empty, it has a resident.
resides : (g : _) (c : After-is_empty g) → c.is_empty.result ≡ false → (i : ℕ) × (position_in c.at-behind.result ≡ Some i)
resides g c full = some_position (position_in c.at-behind.result)
    (λ none. let empty = c.is_empty.ensures.1 none in absurd (cc (empty, full)))

-- The distance that the code computes is the distance from the home slot of the next slot's hash.
home_is : (g : _) (c : After-is_empty g) → distance c.new-modulus.result.count c.home_of_hash-home.result c.next_slot-next.result
    ≡ distance c.new-modulus.result.count (c.at-behind.result.hash % c.new-modulus.result.count) c.next_slot-next.result
home_is g c = ap (λ h. distance c.new-modulus.result.count h c.next_slot-next.result) c.home_of_hash-home.ensures.value

pub returns-then-is_empty-clause-left : goal.returns-then-is_empty-clause-left
returns-then-is_empty-clause-left g c =
    let at = (goal.at.returns-then-is_empty-clause-left g c).After-is_empty in
    let was = c.loop-behind.invariant in
    record {
      holds = record {
        ordered = elim c.then-is_empty.branch [
          | then-is_empty-via-then-is_empty w ↦
              ended _ _ _ _ _ was _ _ c.next_slot-next.ensures.slot c.at-behind.ensures.value (c.is_empty.ensures.0 w.if-is_empty.true)
          | then-is_empty-via-else-is_empty+then-distance_between-eq0 w ↦
              let who = resides g at w.if-is_empty.false in
              closed _ _ _ _ _ was _ _ c.next_slot-next.ensures.slot c.at-behind.ensures.value (omega (
                arith,
                displaced _ _ _ _ _ was _ _ c.next_slot-next.ensures.slot c.at-behind.ensures.value who.0 w.distance_between.result who.1
                    (w.distance_between.ensures ∙ home_is g at),
                w.if-distance_between-eq0.true,
              ))
        ];
        placed = was.placed;
      };
      hashes_are = was.hashes_are;
    }

-- After both writes, the gap has the contents of the next slot, and the next slot is empty.
now_is : (g : _) (c : After-set-in-loop-behind-2 g) → c.set-in-loop-behind-2.new.self
    ≡ set (set c.loop-behind.slots c.loop-behind.gap c.at-behind.result) c.next_slot-next.result blank
now_is g c = c.set-in-loop-behind-2.ensures ∙ ap (λ qs. set qs c.next_slot-next.result blank) c.set-in-loop-behind.ensures

pub loop-behind-smaller : goal.loop-behind-smaller
loop-behind-smaller g c =
    let at = (goal.at.loop-behind-smaller g c).After-is_empty in
    let who = resides g at c.if-is_empty.false in
    omega (
      arith,
      falls _ _ _ _ _ c.loop-behind.invariant _ _ c.next_slot-next.ensures.slot c.at-behind.ensures.value who.0 c.distance_between.result who.1
          (c.distance_between.ensures ∙ home_is g at) c.if-distance_between-eq0.false,
      ap (λ qs. all_displacements (key_hashes g.H.KeyHash.hash_of c.args.pairs.now) (positions qs)) (now_is g c),
    )

pub loop-behind-preserved : goal.loop-behind-preserved
loop-behind-preserved g c =
    let at = (goal.at.loop-behind-preserved g c).After-is_empty in
    let who = resides g at c.if-is_empty.false in
    subst (λ qs. HasGapAt (key_hashes g.H.KeyHash.hash_of c.args.pairs.now) c.args.position c.new-modulus.result.count qs c.next_slot-next.result)
    (sym (now_is g c))
    (goes_on _ _ _ _ _ c.loop-behind.invariant _ _ c.next_slot-next.ensures.slot c.at-behind.ensures.value who.0 c.distance_between.result who.1
    (c.distance_between.ensures ∙ home_is g at) c.if-distance_between-eq0.false)
