use Rattle.std.proofs.Common.{◌≡◌, ◌<◌, ℕ, List, [], get_or, length, map, Option, Some, None, false, eqb, IsTrue, ◌↔◌, arith, ap, sym, subst, ◌∙◌}
use Rattle.std.proofs.lemmas.Bool.Decides.{nat_tests}
use Rattle.std.proofs.lemmas.List.{length-map}
use Rattle.ijson_table.specs.declared.slot.Slot.{Slot}
use Rattle.ijson_table.specs.Slots.{resident}
use Rattle.ijson_table.specs.Store.{keys_of}
use Rattle.ijson_table.specs.private.KeptHash.{kept}
use Rattle.ijson_table.specs.private.Lookup.{is_key}
use Rattle.ijson_table.specs.private.SlotHashes.{position_in, positions, SeenAs}
use Rattle.ijson_table.proofs.pairs.PairsByKey.{keys-length}
use Rattle.ijson_table.proofs.probing.KeyTests.{ReadAt, read_at, same_test, other_hash, looks_at_slot}
use Rattle.ijson_table.proofs.probing.ProbePath.{displacement-none, in_list}
use Rattle.ijson_table.proofs.slots.HashesInSlots.{positions-length, seen_at}
use Rattle.ijson_table.proofs.index.probe.LookupProbeTarget.look.Goals as goal
use Rattle.ijson_table.proofs.index.probe.LookupProbeTarget.look.Goals.{After-widened-there, then-there-self, else-there-self}

-- The represented slots. `hashes` has the hashes of the keys.
abbrev slots_seen : (g : _) (c : After-widened-there g) → List Slot
slots_seen g c = map g.S.StoredSlot.stands_for c.args.self.now.slots.now

abbrev hashes : (g : _) (c : After-widened-there g) → List ℕ
hashes g c = map g.H.KeyHash.hash_of (keys_of c.args.self.now.pairs.now)

-- The slot that was read has the resident of slot `slot` and the kept part of its key's hash.
read : (g : _) (c : After-widened-there g) → ReadAt (hashes g c) (slots_seen g c) c.args.slot c.widened-there.result
read g c =
    let within : c.args.slot < length (slots_seen g c) = omega (arith, c.requires.within, positions-length (slots_seen g c)) in
    read_at (hashes g c) (slots_seen g c) c.args.slot c.widened-there.result c.args.self.now.table.hashes_are within
    (c.widened-there.ensures.value ∙ (ap g.S.StoredSlot.stands_for (sym c.index-self-slot.is)
    ∙ seen_at g.S.StoredSlot.stands_for c.args.self.now.slots.now c.args.slot c.index-self-slot.result within c.index-self-slot.is))

-- An index in the slot that was read is below the number of pairs.
listed : (g : _) (c : After-widened-there g) (i : ℕ) → position_in c.widened-there.result ≡ Some i → i < length (keys_of c.args.self.now.pairs.now)
listed g c i at = omega (
  arith,
  in_list (hashes g c) (positions (slots_seen g c)) c.args.self.now.table.table c.args.slot i c.requires.within (sym (read g c).position ∙ at),
  length-map (keys_of c.args.self.now.pairs.now) g.H.KeyHash.hash_of,
)

pub has_key-same-requires : goal.has_key-same-requires
has_key-same-requires g c = omega (
  arith,
  listed g (goal.at.has_key-same-requires g c).After-widened-there c.in-Some.at (sym c.position.ensures ∙ c.in-Some.is),
  keys-length c.args.self.now.pairs.now,
)

pub returns-in-None-clause-sees : goal.returns-in-None-clause-sees
returns-in-None-clause-sees g c =
    let place = (goal.at.returns-in-None-clause-sees g c).After-widened-there in
    let none : resident (positions (slots_seen g place)) c.args.slot ≡ None =
    sym (read g place).position ∙ (sym c.position.ensures ∙ c.in-None.is) in
    (none, displacement-none (hashes g place) (positions (slots_seen g place)) c.args.slot none)

pub returns-after-there-self-clause-sees : goal.returns-after-there-self-clause-sees
returns-after-there-self-clause-sees g c =
    let place = (goal.at.returns-after-there-self-clause-sees g c).After-widened-there in
    let self = c.args.self.now in
    let slots = slots_seen g place in
    let was = read g place in
    let keys : List (List ℕ) = keys_of self.pairs.now in
    let there = c.widened-there.result in
    let n : ℕ = length slots in
    let size : self.modulus.count ≡ n = self.counted ∙ sym (length-map self.slots.now g.S.StoredSlot.stands_for) in
    let sought : (i : ℕ) → position_in there ≡ Some i → c.if-there-self.same ≡ is_key keys self.key.now i = λ i e.
    elim c.if-there-self.branch [
      | then-there-self w ↦
          let who : ◌≡◌ {A = Option ℕ} (Some c.in-Some.at) (Some i) = sym (sym c.position.ensures ∙ c.in-Some.is) ∙ e in
          let at : c.in-Some.at ≡ i = cc in
          w.same-is ∙ same_test w.has_key-same.result (get_or keys i []) self.key.now
          (subst (λ n. IsTrue w.has_key-same.result ↔ (get_or keys n [] ≡ self.key.now)) at w.has_key-same.ensures)
      | else-there-self w ↦
          let no_it : eqb there.hash self.hash ≡ false = grind (arith, nat_tests, w.if-there-self.false) in
          w.same-is ∙ (no_it ∙ other_hash g.H.KeyHash.hash_of keys self.key.now i n there.hash self.hash
          (listed g place i e) (was.hash i e) (subst (λ k. self.hash ≡ kept k (g.H.KeyHash.hash_of self.key.now)) size self.hashed)
          w.if-there-self.false)
    ] in
    looks_at_slot n (hashes g place) (positions slots) c.args.slot there c.if-there-self.same (is_key keys self.key.now) c.seen.result
    (sym (positions-length slots)) was.position was.hash
    (subst (λ k. SeenAs there k c.args.slot c.if-there-self.same c.seen.result) size c.seen.ensures) sought
