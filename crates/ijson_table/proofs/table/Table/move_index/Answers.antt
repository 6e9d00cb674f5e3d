use Rattle.std.proofs.Common.{◌≡◌, ◌<◌, ℕ, List, length, get_or, map, arith, ap, sym, subst, ◌∙◌}
use Rattle.std.specs.Prelude.{vec_capacity}
use Rattle.std.proofs.lemmas.List.{length-map}
use Rattle.std.proofs.lemmas.Option.{get_or_from_slice_get}
use Rattle.std.specs.List.{insert}
use Rattle.ijson_table.specs.Crowd.{slot_count}
use Rattle.ijson_table.specs.Store.{keys_of, shift_out, IsDistinct}
use Rattle.ijson_table.specs.private.Insertion.{IsTableOf}
use Rattle.ijson_table.proofs.pairs.PairsByKey.{key_at, keys-length}
use Rattle.ijson_table.proofs.pairs.Shown.{count_shown, pairs_shown}
use Rattle.ijson_table.proofs.probing.KeyHashes.{hash_at, hashes, length-hashes}
use Rattle.ijson_table.proofs.shifting.MovedIndices.{distinct_relocated, length-relocated, map-relocated, moved_table, relocated}
use Rattle.ijson_table.proofs.table.Table.move_index.Goals.{After-insert}
use Rattle.ijson_table.proofs.table.Table.move_index.Goals as goal

-- The pairs before the move.
abbrev old : (g : _) (c : After-insert g) → List (List ℕ × g.row.V.Denot)
old g c = c.self.inside.pairs.items

from_in : (g : _) (c : After-insert g) → c.args.from < length (old g c)
from_in g c = omega (arith, c.requires.from, count_shown c.self.view_is)

to_in : (g : _) (c : After-insert g) → c.args.to < length (old g c)
to_in g c = omega (arith, c.requires.to, count_shown c.self.view_is)

-- After the pair is removed, the list has capacity for it.
room : (g : _) (c : After-insert g) → length c.remove-pair.new.self.items < vec_capacity c.remove-pair.new.self
room g c = omega (
  arith,
  c.remove-pair.ensures.len,
  c.remove-pair.new.self.ok.0,
  c.remove-pair.ensures.capacity,
  c.self.inside.pairs.ok.0,
  c.self.invariant.room.within,
)

now : (g : _) (c : After-insert g) → c.insert.new.self.items ≡ relocated (old g c) c.args.from c.args.to c.remove-pair.result
now g c =
    let done = c.insert.ensures.succeeds (omega (arith, room g c, c.remove-pair.new.self.ok.0)) in
    simp (c.insert.ensures.items, done, c.remove-pair.ensures.items)

pub invariant_of-self-inside : goal.invariant_of-self-inside
invariant_of-self-inside g c =
    let w = (goal.at.invariant_of-self-inside g c).After-insert in
    let pair = c.remove-pair.result in
    let size = keys-length (old g w) in (
      subst (λ ps. IsDistinct (keys_of ps)) (sym (now g w)) (distinct_relocated (old g w) c.args.from c.args.to pair c.self.inside.distinct
          (omega (arith, from_in g w, size)) (omega (arith, to_in g w, size))
          (ap (λ p. p.0) c.remove-pair.ensures.value ∙ sym (key_at (old g w) c.args.from pair (from_in g w)))),
      tt,
    )

pub invariant_of-self : goal.invariant_of-self
invariant_of-self g c =
    let w = (goal.at.invariant_of-self g c).After-insert in
    let hash = g.H.KeyHash.hash_of in
    let pair = c.remove-pair.result in
    let was = hashes hash (old g w) in
    let count = length-hashes hash (old g w) in
    let size = length-relocated (old g w) c.args.from c.args.to pair (from_in g w) (to_in g w) in
    let own = hash_at hash (old g w) c.args.from pair (hash pair.0) (from_in g w) (ap (λ p. hash p.0) c.remove-pair.ensures.value) in
    let same : vec_capacity c.insert.new.self ≡ vec_capacity c.self.inside.pairs = (c.insert.ensures.in_place (omega (arith, room g w, c.remove-pair.new.self.ok.0))).1.0 ∙ c.remove-pair.ensures.capacity in
    record {
      room = record {
        within = omega (arith, ap length (now g w), size, same, c.self.invariant.room.within);
        limited = omega (arith, same, c.self.invariant.room.limited);
      };
      table = subst (λ hs. IsTableOf hs c.renumber.new.self)
          (sym (ap (hashes hash) (now g w)
          ∙ (ap (map hash) (map-relocated (λ p. p.0) (old g w) c.args.from c.args.to pair)
          ∙ map-relocated hash (keys_of (old g w)) c.args.from c.args.to pair.0)
          ∙ ap (relocated was c.args.from c.args.to) own))
          (rw (c.renumber.ensures) (moved_table was c.args.from c.args.to (omega (arith, from_in g w, count)) (omega (arith, to_in g w, count)) _
          c.self.invariant.table));
      size = ap length c.renumber.ensures ∙ length-map c.self.inside.slots _ ∙ c.self.invariant.size ∙ ap slot_count (sym same);
    }

pub returns-clause-pairs : goal.returns-clause-pairs
returns-clause-pairs g c pair is =
    let w = (goal.at.returns-clause-pairs g c).After-insert in
    now g w ∙ ap (relocated (old g w) c.args.from c.args.to) (c.remove-pair.ensures.value
    ∙ ap (λ ps. get_or ps c.args.from c.remove-pair.result) (pairs_shown c.self.view_is) ∙ get_or_from_slice_get _ c.args.from pair c.remove-pair.result is)
    ∙ ap (λ ps. insert (shift_out ps c.args.from) c.args.to pair) (pairs_shown c.self.view_is)
