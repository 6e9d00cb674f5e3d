use Rattle.std.proofs.Common.{◌<◌, length, arith, ap, sym, subst}
use Rattle.ijson_table.specs.Store.{Store, keys_of, IsDistinct}
use Rattle.ijson_table.proofs.pairs.PairsByKey.{slice_get-seen}
use Rattle.ijson_table.proofs.shifting.ListShiftOut.{distinct_shifted}
use Rattle.ijson_table.proofs.linear.LinearPairsPairStore.shift_out.Goals as goal

pub invariant_of-self-inside : goal.invariant_of-self-inside
invariant_of-self-inside g c =
    let old = c.self.inside.pairs.items in
    let li : c.args.index < length old = omega (arith, ap (λ (s : Store g.row.V.Denot). length s.pairs) c.self.view_is, c.requires) in
    (subst (λ ps. IsDistinct (keys_of ps)) (sym c.remove.ensures.items) (distinct_shifted old c.args.index c.self.inside.distinct li), tt)

pub returns-clause-pair : goal.returns-clause-pair
returns-clause-pair g c =
    slice_get-seen c.self.inside.pairs.items c.args.self.now.pairs c.args.index c.remove.result
    (ap (λ (s : Store g.row.V.Denot). s.pairs) c.self.view_is) c.requires c.remove.ensures.value
