use Rattle.std.proofs.Common.{arith, ap, ◌∙◌}
use Rattle.ijson_table.proofs.firsts.PlacesSoFar.{Turn, place_below, with_new, with_old}
use Rattle.ijson_table.proofs.sorting.duplicates.merge_duplicates.Given.{Over}
use Rattle.ijson_table.proofs.sorting.duplicates.merge_duplicates.Goals as goal
use Rattle.ijson_table.proofs.sorting.duplicates.merge_duplicates.Goals.{then-before-position, else-before-position, After-swap}

-- Each iteration satisfies `Turn`.
turn : (g : Over) (c : After-swap g) → Turn c.args.pairs.now c.loop-position.pairs c.swap.new.self c.args.earlier.items
    c.loop-position.places.items c.loop-position.kept c.loop-position.position c.index-before.result.now
turn g c = record {
  so_far = c.loop-position.invariant;
  size = c.loop-position.auto.pairs;
  more = omega (arith, c.loop-position-test.true, c.loop-position.auto.pairs);
  read = c.index-before.ensures;
  moved = c.swap.ensures.after;
}

pub swap-requires-else-before-position-clause-a_in_bounds : goal.swap-requires-else-before-position-clause-a_in_bounds
swap-requires-else-before-position-clause-a_in_bounds g c =
    place_below c.args.pairs.now c.args.earlier.items c.requires c.loop-position.pairs c.swap.new.self c.loop-position.places.items
    c.loop-position.kept c.loop-position.position c.index-before.result.now
    (turn g (goal.at.swap-requires-else-before-position-clause-a_in_bounds g c).After-swap) c.if-before-position.false
    c.index-place.result.now c.index-place.ensures

pub loop-position-preserved : goal.loop-position-preserved
loop-position-preserved g c =
    let all = c.args.pairs.now in
    let old = c.loop-position.pairs in
    let new = c.swap.new.self in
    let places = c.loop-position.places.items in
    let k = c.loop-position.kept in
    let n = c.loop-position.position in
    let e = c.index-before.result.now in
    let t = turn g (goal.at.loop-position-preserved g c).After-swap in
    elim c.if-before-position.branch [
      | then-before-position w ↦ rw (w.kept-is, w.pairs-is) (with_new all c.args.earlier.items c.requires old new places k n e t
          w.if-before-position.true c.if-before-position.places.items (ap (λ v. v.items) w.places-is))
      | else-before-position w ↦ rw w.kept-is (with_old all c.args.earlier.items c.requires old new places k n e t
          w.if-before-position.false w.index-place.result.now w.index-place.ensures c.if-before-position.pairs
          (w.pairs-is ∙ w.swap-else-before-position.ensures.after) c.if-before-position.places.items (ap (λ v. v.items) w.places-is))
    ]
