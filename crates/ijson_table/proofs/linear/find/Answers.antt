use Rattle.std.proofs.Common.{◌≡◌, [], get_or, arith, ap, sym, ◌∙◌, below_more}
use Rattle.ijson_table.specs.Store.{keys_of}
use Rattle.ijson_table.proofs.pairs.KeyPositions.{position-first, position-none}
use Rattle.ijson_table.proofs.pairs.PairsByKey.{key_at, keys-length}
use Rattle.ijson_table.proofs.linear.find.Goals as goal

pub returns-then-eq_str : goal.returns-then-eq_str
returns-then-eq_str g c =
    let same : c.index-pairs-i.result.0 ≡ c.args.key.now = c.eq_str.ensures.0 c.if-eq_str.true in
    let here : get_or (keys_of c.args.pairs.now) c.loop-i.i [] ≡ c.args.key.now =
    key_at c.args.pairs.now c.loop-i.i c.index-pairs-i.result c.loop-i-test.true ∙ (ap (λ p. p.0) (sym c.index-pairs-i.is) ∙ same) in
    sym (position-first (keys_of c.args.pairs.now) c.args.key.now c.loop-i.i
    (omega (arith, keys-length c.args.pairs.now, c.loop-i-test.true)) here c.loop-i.invariant)

pub loop-i-preserved : goal.loop-i-preserved
loop-i-preserved g c = below_more _ _ c.loop-i.invariant (λ here.
    let same : c.index-pairs-i.result.0 ≡ c.args.key.now =
    ap (λ p. p.0) c.index-pairs-i.is ∙ (sym (key_at c.args.pairs.now c.loop-i.i c.index-pairs-i.result c.loop-i-test.true) ∙ here) in
    let yes_it_is = c.eq_str.ensures.1 same in
    let no_it_is = c.if-eq_str.false in
    absurd (cc (yes_it_is, no_it_is)))

pub returns : goal.returns
returns g c = sym (position-none (keys_of c.args.pairs.now) c.args.key.now
    (λ j lj. c.loop-i.invariant j (omega (arith, keys-length c.args.pairs.now, c.loop-i-test.false))))
