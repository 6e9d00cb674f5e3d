use Rattle.std.proofs.Common.{◌≡◌, ◌<◌, ℕ, List, [], length, get_or, map, Option, Some, None, IsTrue, ◌↔◌, arith, ap, sym, subst, ◌∙◌}
use Rattle.ijson_table.specs.Placed.{Placed}
use Rattle.ijson_table.specs.Sees.{Sees}
use Rattle.ijson_table.specs.Store.{keys_of}
use Rattle.ijson_table.specs.private.SlotHashes.{position_in, positions, SeenAs}
use Rattle.ijson_table.proofs.probing.KeyHashes.{length-hashes}
use Rattle.ijson_table.proofs.probing.KeyTests.{ReadAt, read_at, sees_slot}
use Rattle.ijson_table.proofs.probing.ProbePath.{in_list}
use Rattle.ijson_table.proofs.slots.HashesInSlots.{positions-length}
use Rattle.ijson_table.proofs.table.TablePlaces.look.Goals as goal
use Rattle.ijson_table.proofs.table.TablePlaces.look.Goals.{After-at-there, in-None, in-Some}

-- `slot` is below the number of slots.
inside : (g : _) (c : After-at-there g) → c.args.slot < length c.self.inside.slots
inside g c = omega (
  arith,
  c.requires.within,
  ap (λ (t : Placed g.row.V.Denot). length t.slots) c.self.view_is,
  positions-length c.self.inside.slots,
)

read : (g : _) (c : After-at-there g) → ReadAt (map g.H.KeyHash.hash_of (keys_of c.self.inside.pairs.items)) c.self.inside.slots c.args.slot
    c.at-there.result
read g c = read_at _ c.self.inside.slots c.args.slot c.at-there.result c.self.invariant.table.hashes_are (inside g c) c.at-there.ensures.value

pub has_key-same-requires : goal.has_key-same-requires
has_key-same-requires g c =
    let w = (goal.at.has_key-same-requires g c).After-at-there in
    omega (
      arith,
      in_list _ (positions c.self.inside.slots) c.self.invariant.table.table c.args.slot c.in-Some.at
          (omega (arith, inside g w, positions-length c.self.inside.slots))
          (sym (read g w).position ∙ (sym c.position.ensures ∙ c.in-Some.is)),
      length-hashes g.H.KeyHash.hash_of c.self.inside.pairs.items,
      ap length c.deref.ensures.value,
    )

pub returns-clause-sees : goal.returns-clause-sees
returns-clause-sees g c =
    let hash = g.H.KeyHash.hash_of in
    let keys : List (List ℕ) = keys_of c.self.inside.pairs.items in
    let there = c.at-there.result in
    let key : List ℕ = c.args.key.now in
    let was = read g (goal.at.returns-clause-sees g c).After-at-there in
    let sought : (i : ℕ) → position_in there ≡ Some i → IsTrue c.match-position.same ↔ (get_or keys i [] ≡ key) = λ i e.
    elim c.match-position.branch [
      | in-None w ↦
          let none : position_in there ≡ None = sym c.position.ensures ∙ w.in-None.is in
          let bad : ◌≡◌ {A = Option ℕ} (Some i) None = sym e ∙ none in
          absurd (cc)
      | in-Some w ↦
          let who : ◌≡◌ {A = Option ℕ} (Some w.in-Some.at) (Some i) = sym w.in-Some.is ∙ (c.position.ensures ∙ e) in
          let at : w.in-Some.at ≡ i = cc in
          subst (λ s. IsTrue s ↔ (get_or keys i [] ≡ key)) (sym w.same-is)
          (subst (λ n. IsTrue w.has_key-same.result ↔ (get_or keys n [] ≡ key)) at
          (subst (λ ps. IsTrue w.has_key-same.result ↔ (get_or
          (keys_of ps) w.in-Some.at [] ≡ key)) w.deref.ensures.value w.has_key-same.ensures))
    ] in
    subst (λ (t : Placed g.row.V.Denot). Sees hash (keys_of t.store.pairs) t.slots c.args.slot key c.seen.result) c.self.view_is
    (sees_slot (length c.self.inside.slots) hash keys (positions c.self.inside.slots) c.args.slot there c.match-position.same key c.seen.result
    (sym (positions-length c.self.inside.slots)) was.position was.hash
    (subst (λ n. SeenAs there n c.args.slot c.match-position.same c.seen.result) (c.new-modulus.ensures ∙ c.len.ensures) c.seen.ensures) sought)
