use Rattle.std.specs.Prelude.{swap}
use Rattle.std.proofs.Common.{◌≡◌, ℕ, List, ◌+◌, ◌<◌, ◌≤◌, [], length, length-take, get_or, take, drop, arith, sym, ◌∙◌}
use Rattle.ijson_table.specs.Store.{keys_of, put_each}
use Rattle.ijson_table.specs.private.FirstPlaced.{FirstPlaced}
use Rattle.ijson_table.proofs.pairs.PairsByKey.{position_within}
use Rattle.ijson_table.proofs.pairs.PutEach.{put_each-split}
use Rattle.ijson_table.proofs.pairs.PutInPlace.{over_keys, put_next, put_over}
use Rattle.ijson_table.proofs.probing.FirstPairs.{same_first}
use Rattle.ijson_table.proofs.table.from_list.put_in_place.Goals.{in-None, in-Some}
use Rattle.ijson_table.proofs.table.from_list.put_in_place.Goals as goal

pub returns-then-kept-pairs-clause-pairs : goal.returns-then-kept-pairs-clause-pairs
returns-then-kept-pairs-clause-pairs g c =
    put_each-split c.args.pairs.now c.add_new_keys-kept.result c.add_new_keys-kept.ensures.placed.distinct

pub loop-position-init : goal.loop-position-init
loop-position-init g c =
    let added = c.add_new_keys-kept.ensures in
    record {
      within = omega arith;
      placed = added.placed;
      pairs = put_each-split c.args.pairs.now c.add_new_keys-kept.result added.placed.distinct;
      count = added.count;
      counted = added.counted;
      steps = added.steps;
    }

pub swap-requires-in-Some-clause-a_in_bounds : goal.swap-requires-in-Some-clause-a_in_bounds
swap-requires-in-Some-clause-a_in_bounds g c = omega (
  arith,
  position_within (take c.loop-position.kept c.swap.new.self) (get_or (keys_of c.swap.new.self) c.loop-position.kept [])
      c.in-Some.at (sym c.in-Some.ensures.found),
  length-take c.loop-position.kept c.swap.new.self,
)

pub loop-position-preserved : goal.loop-position-preserved
loop-position-preserved g c =
    let i = c.loop-position.invariant in
    let added = c.add_new_key.ensures in
    let old = c.loop-position.pairs in
    let new = c.swap.new.self in
    let k = c.loop-position.kept in
    let p = c.loop-position.position in
    let lp : p < length old = omega (arith, c.loop-position-test.true, c.loop-position.auto.pairs) in
    let now : ℕ → List (List ℕ × g.row.V.Denot) → Type 0 = λ n ps. record {
      within : n ≤ p + 1;
      placed : FirstPlaced g.H.KeyHash.hash_of ps n c.add_new_key.new.slots;
      pairs : put_each (take n ps) (drop (p + 1) ps) ≡ put_each [] c.args.pairs.now;
    } in
    let are : now c.match-add_new_key.kept c.match-add_new_key.pairs = elim c.match-add_new_key.branch [
      | in-None w ↦ rw (w.kept-is, w.pairs-is) (record {
        within = omega (arith, i.within);
        placed = w.in-None.ensures.placed;
        pairs = put_next old new k p i.within lp c.swap.ensures.after (sym w.in-None.ensures.found) ∙ i.pairs;
      })
      | in-Some w ↦
          let replaced : c.match-add_new_key.pairs ≡ swap new w.in-Some.at k = cc in
          rw (w.kept-is, replaced) (record {
            within = omega (arith, i.within);
            placed = rw w.in-Some.ensures.placed (same_first i.placed (over_keys old new k p i.within lp c.swap.ensures.after w.in-Some.at (sym w.in-Some.ensures.found)));
            pairs = put_over old new k p i.within lp c.swap.ensures.after w.in-Some.at (sym w.in-Some.ensures.found) ∙ i.pairs;
          })
    ] in
    record {
      within = are.within;
      placed = are.placed;
      pairs = are.pairs;
      count = added.count ∙ i.count;
      counted = omega (arith, added.grows, i.counted);
      steps = omega (arith, added.steps, i.count, c.if-steps-most.false);
    }
