use Rattle.std.proofs.Common.{◌≡◌, ◌≢◌, ◌<◌, ◌≤◌, ℕ, ◌+◌, List, length, map, get_or, set, Option, Some, None, refl, arith, ap, sym, ◌∙◌}
use Rattle.std.proofs.Common.{rules, false, inl, inr, subst, get_or-set_other}
use Rattle.std.proofs.lemmas.List.{length-map, length-set, map-set}
use Rattle.std.proofs.lemmas.Bool.{cases_eq, cases_lt}
use Rattle.ijson_table.specs.declared.slot.Slot.{Slot}
use Rattle.ijson_table.specs.Crowd.{distance}
use Rattle.ijson_table.specs.Slots.{after, resident}
use Rattle.ijson_table.specs.private.Changes.{changes}
use Rattle.ijson_table.specs.private.Holds.{Holds, MayStand, with_one}
use Rattle.ijson_table.specs.private.Insertion.{Accepts, IsPut}
use Rattle.ijson_table.specs.private.Probe.{onward, AreFull}
use Rattle.ijson_table.specs.private.SlotHashes.{position_in, positions, blank, HasHash}
use Rattle.ijson_table.proofs.arithmetic.Circular.{distance-after, distance-below, distance-self, onward-distance}
use Rattle.ijson_table.proofs.shifting.SlotWrites.{put_down, taken_up}
use Rattle.ijson_table.proofs.probing.ProbePath.{displacement-none}
use Rattle.ijson_table.proofs.slots.HashesInSlots.{positions-length, positions-put, positions-set, position-at, hashes-at, hashes-set}
use Rattle.ijson_table.proofs.slots.HashesInSlots.{has_own_hash, seen_at}
use Rattle.ijson_table.proofs.slots.Residents.{some_position}
use Rattle.ijson_table.proofs.slots.SlotChanges.{changes-none, changes-set}
use Rattle.ijson_table.proofs.index.forward.shift_forward.Goals.{After-is_empty}
use Rattle.ijson_table.proofs.index.forward.shift_forward.Invariants.{IsOnTheWay}
use Rattle.ijson_table.proofs.index.forward.shift_forward.Goals as goal

-- Writing a slot adds at most 1 to the number of changed slots.
one_more : (old : List (Option ℕ)) (slots : List Slot) (slot written : ℕ) (entry : Slot) → changes old (positions slots) ≤ written
    → changes old (positions (set slots slot entry)) ≤ written + 1
one_more old slots slot written entry few = omega (
  arith,
  ap (changes old) (positions-set slots slot entry),
  changes-set old (positions slots) slot (position_in entry),
)

-- If the slots from `from` to before `slot` have residents, and `slot` has a resident, then the
-- slots from `from` to `slot` have residents.
passed_more : (old : List (Option ℕ)) (n from slot more : ℕ) → n ≡ length old → from < n → slot < n → more ≡ distance n from slot + 1
    → AreFull old from (distance n from slot) → resident old slot ≢ None → AreFull old from more
passed_more old n from slot more size lf ls is passed here j lj none = elim (cases_eq j (distance n from slot)) [
  | inl at ↦ here (ap (resident old) (sym (ap (onward (length old) from) (at ∙ ap (λ m. distance m from slot) size)
      ∙ onward-distance (length old) from slot (omega (arith, lf, size)) (omega (arith, ls, size)))) ∙ none)
  | inr other ↦ passed j (omega (arith, lj, is)) none
]

module _ (hashes : List ℕ) (old : List Slot) (position from : ℕ) (slots : List Slot) (entry : Slot) (slot : ℕ)
    (way : IsOnTheWay hashes old position from slots entry slot) (read : Slot) (is : read ≡ get_or slots slot blank) where
  abbrev n : ℕ
  n = length old

  abbrev want : ℕ → ℕ
  want = with_one (positions old) position

  abbrev ps : List (Option ℕ)
  ps = positions slots

  -- The index that `entry` holds.
  abbrev pending : ℕ
  pending = way.held.0

  -- The pending index may be inserted at the current slot.
  may : MayStand hashes ps pending slot
  may = way.held.3

  -- The current slot is below the number of slots.
  here : slot < length slots
  here = omega (arith, may.within, positions-length slots)

  within : slot < n
  within = omega (arith, here, way.size)

  put : Holds hashes want (resident ps slot) (positions (set slots slot entry))
  put = rw (positions-put slots slot entry pending way.held.1) (put_down hashes want ps pending slot may.within way.held.2 may)

  -- If the current slot is empty, writing `entry` to it completes the insertion.
  is_put : position_in read ≡ None → IsPut hashes old position from slot (set slots slot entry)
  is_put empty =
      let none : resident ps slot ≡ None = position-at slots slot None here (sym empty ∙ ap position_in is) in
      record {
        holds = subst (λ o. Holds hashes want o (positions (set slots slot entry))) none put;
        hashes_are = hashes-set n hashes slots slot entry way.has_hash way.have_hashes;
        count = length-set slots slot entry ∙ way.size;
        within = within;
        empty = sym (way.left slot within (omega arith)) ∙ none;
        passed = way.passed;
        changes = one_more (positions old) slots slot (distance n from slot) entry way.changes;
      }

  -- An empty slot, which the shift has not passed.
  abbrev e : ℕ
  e = way.some_empty.0

  le : e < n
  le = omega (arith, way.some_empty.1, positions-length old)

  ahead : distance n from slot ≤ distance n from e
  ahead = elim (cases_lt (distance n from e) (distance n from slot)) [
    | inl early ↦ absurd (way.passed (distance n from e) early (ap (resident (positions old))
        (ap (λ m. onward m from (distance n from e)) (positions-length old) ∙ onward-distance n from e way.starts le) ∙ way.some_empty.2))
    | inr late ↦ late
  ]

  still_empty : resident ps e ≡ None
  still_empty = way.left e le ahead ∙ way.some_empty.2

  -- If the current slot has resident `k`, the shift continues at slot `next`.
  module _ (k next : ℕ) (there : position_in read ≡ Some k) (to : next ≡ after n slot) where
    stood : resident ps slot ≡ Some k
    stood = position-at slots slot (Some k) here (sym there ∙ ap position_in is)

    -- The next slot is not slot `from`.
    room : distance n from slot + 1 < n
    room = elim (cases_eq (distance n from e) (distance n from slot)) [
      | inl same ↦
          let at : e ≡ slot = sym (onward-distance n from e way.starts le) ∙ (ap (onward n from) same ∙ onward-distance n from slot way.starts within) in
          let bad : ◌≡◌ {A = Option ℕ} (Some k) None = sym stood ∙ (ap (resident ps) (sym at) ∙ still_empty) in
          absurd (cc (bad))
      | inr other ↦ omega (arith, ahead, other, distance-below n from e way.starts le)
    ]

    -- The next slot is one slot further from `from` than the current slot.
    further : distance n from next ≡ distance n from slot + 1
    further = ap (distance n from) to ∙ distance-after n from slot way.starts within room

    may_next : MayStand hashes (positions (set slots slot entry)) k next
    may_next = rw (positions-put slots slot entry pending way.held.1)
        (subst (MayStand hashes (set ps slot (Some pending)) k) (ap (λ m. after m slot) (positions-length slots ∙ way.size) ∙ sym to)
        (taken_up hashes ps pending k slot e may.within (omega (arith, le, way.size, positions-length slots)) way.held.2.ordered
        (displacement-none hashes ps e still_empty) stood may.further))

    -- If `entry` is written to the current slot, the invariant holds at the next slot.
    goes_further : IsOnTheWay hashes old position from (set slots slot entry) read next
    goes_further = record {
      starts = way.starts;
      some_empty = way.some_empty;
      held = (k, there, subst (λ o. Holds hashes want o (positions (set slots slot entry))) stood put, may_next);
      changes = omega (arith, further, one_more (positions old) slots slot (distance n from slot) entry way.changes);
      has_hash = subst (HasHash n hashes) (sym is) (hashes-at n hashes slots slot way.have_hashes here);
      have_hashes = hashes-set n hashes slots slot entry way.has_hash way.have_hashes;
      passed = passed_more (positions old) n from slot (distance n from next) (sym (positions-length old)) way.starts within further
          way.passed (λ none. let bad : ◌≡◌ {A = Option ℕ} (Some k) None = sym stood ∙ (way.left slot within (omega arith) ∙ none) in cc);
      left = λ p lp away. ap (λ qs. resident qs p) (positions-set slots slot entry)
          ∙ (get_or-set_other ps slot p (position_in entry) None (λ at. omega (arith, away, further, ap (distance n from) at))
          ∙ way.left p lp (omega (arith, away, further)));
      size = length-set slots slot entry ∙ way.size;
    }

pub loop-was-init : goal.loop-was-init
loop-was-init g c = record {
  inside = omega (
    arith,
    c.requires.may.1.1.within,
    positions-length (map g.S.StoredSlot.stands_for c.args.slots.now),
    length-map c.args.slots.now g.S.StoredSlot.stands_for,
  );
  way = λ hashes allowed.
      let stored : List Slot = map g.S.StoredSlot.stands_for c.args.slots.now in
      let slots : List (Option ℕ) = positions stored in
      let accepts : Accepts hashes stored c.args.position c.args.hash = allowed.0 in
      let may : MayStand hashes slots c.args.position c.args.from = allowed.1 in
      let none : distance (length stored) c.args.from c.args.from ≡ 0 = distance-self (length stored) c.args.from in
      let way : IsOnTheWay hashes stored c.args.position c.args.from stored c.of.result c.args.from = record {
        starts = omega (arith, may.within, positions-length stored);
        some_empty = accepts.empty;
        held = (c.args.position, c.of.ensures.position, record { ordered = accepts.ordered; placed = λ i. refl }, may);
        changes = omega (arith, changes-none slots);
        has_hash = has_own_hash (length stored) hashes c.of.result c.args.position c.of.ensures.position (c.of.ensures.hash ∙ accepts.hash_is);
        have_hashes = accepts.hashes_are;
        passed = λ j lj. absurd (omega (arith, lj, none));
        left = λ p lp away. refl;
        size = refl;
      } in
      subst (λ entry. IsOnTheWay hashes stored c.args.position c.args.from stored entry c.args.from) (sym c.stored-entry.ensures) way;
}

-- The stored slot that was read represents the slot at index `slot`.
read_seen : (g : _) (c : After-is_empty g) → g.S.StoredSlot.stands_for c.index-slots-slot.result
    ≡ get_or (map g.S.StoredSlot.stands_for c.loop-was.slots) c.loop-was.slot blank
read_seen g c = seen_at g.S.StoredSlot.stands_for c.loop-was.slots c.loop-was.slot c.index-slots-slot.result
    (omega (arith, c.loop-was.invariant.inside, length-map c.loop-was.slots g.S.StoredSlot.stands_for)) c.index-slots-slot.is

-- A slot that is not empty has a resident.
stands : (g : _) (c : After-is_empty g) → c.is_empty.result ≡ false
    → (k : ℕ) × (position_in (g.S.StoredSlot.stands_for c.index-slots-slot.result) ≡ Some k)
stands g c full =
    let who = some_position (position_in c.widened.result) (λ none. let empty = c.is_empty.ensures.1 none in absurd (cc (empty, full))) in
    (who.0, sym (ap position_in c.widened.ensures.value) ∙ who.1)

-- The next slot is the slot after the current slot of the represented slots.
next_seen : (g : _) (c : goal.After-next_slot-slot g) → c.next_slot-slot.result
    ≡ after (length (map g.S.StoredSlot.stands_for c.args.slots.now)) c.loop-was.slot
next_seen g c = c.next_slot-slot.ensures.slot ∙ ap (λ n. after n c.loop-was.slot) (sym (length-map c.args.slots.now g.S.StoredSlot.stands_for))

pub loop-was-preserved : goal.loop-was-preserved
loop-was-preserved g c =
    let p = (goal.at.loop-was-preserved g c).After-is_empty in
    let there = stands g p c.if-is_empty.false in
    record {
      inside = search rules;
      way = λ hashes allowed. rw (map-set g.S.StoredSlot.stands_for c.loop-was.slots c.loop-was.slot c.loop-was.entry)
          (goes_further _ _ _ _ _ _ _ (c.loop-was.invariant.way hashes allowed) _ (read_seen g p) there.0 c.next_slot-slot.result there.1 (next_seen g c));
    }

pub loop-was-smaller : goal.loop-was-smaller
loop-was-smaller g c =
    let p = (goal.at.loop-was-smaller g c).After-is_empty in
    let there = stands g p c.if-is_empty.false in
    let way = c.loop-was.invariant.way c.requires.may.0 c.requires.may.1 in
    omega (
      arith,
      room _ _ _ _ _ _ _ way _ (read_seen g p) there.0 c.next_slot-slot.result there.1 (next_seen g c),
      further _ _ _ _ _ _ _ way _ (read_seen g p) there.0 c.next_slot-slot.result there.1 (next_seen g c),
    )

pub returns-then-is_empty : goal.returns-then-is_empty
returns-then-is_empty g c hashes allowed = rw (map-set g.S.StoredSlot.stands_for c.loop-was.slots c.loop-was.slot c.loop-was.entry)
    (is_put _ _ _ _ _ _ _ (c.loop-was.invariant.way hashes allowed) _ (read_seen g (goal.at.returns-then-is_empty g c).After-is_empty)
    (sym (ap position_in c.widened.ensures.value) ∙ c.is_empty.ensures.0 c.if-is_empty.true))
