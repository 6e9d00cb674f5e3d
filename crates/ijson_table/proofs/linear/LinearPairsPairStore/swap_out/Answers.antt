use Rattle.std.proofs.Common.{◌≡◌, ◌<◌, length, arith, ap, sym, ◌∙◌, subst}
use Rattle.ijson_table.specs.Store.{Store, keys_of, swap_out, IsDistinct}
use Rattle.ijson_table.proofs.pairs.PairsByKey.{distinct_swapped, slice_get-seen, swap_out-is}
use Rattle.ijson_table.proofs.linear.LinearPairsPairStore.swap_out.Goals as goal

pub invariant_of-self-inside : goal.invariant_of-self-inside
invariant_of-self-inside g c =
    let old = c.self.inside.pairs.items in
    let li : c.args.index < length old = omega (arith, ap (λ (s : Store g.row.V.Denot). length s.pairs) c.self.view_is, c.requires) in
    let now : c.swap_remove.new.self.items ≡ swap_out old c.args.index =
    c.swap_remove.ensures.items ∙ swap_out-is old c.args.index c.swap_remove.result li in
    (subst (λ ps. IsDistinct (keys_of ps)) (sym now) (distinct_swapped old c.args.index c.self.inside.distinct li), tt)

pub returns-clause-pair : goal.returns-clause-pair
returns-clause-pair g c =
    slice_get-seen c.self.inside.pairs.items c.args.self.now.pairs c.args.index c.swap_remove.result
    (ap (λ (s : Store g.row.V.Denot). s.pairs) c.self.view_is) c.requires c.swap_remove.ensures.value

pub returns-clause-pairs : goal.returns-clause-pairs
returns-clause-pairs g c =
    let old = c.self.inside.pairs.items in
    let viewed : old ≡ c.args.self.now.pairs = ap (λ (s : Store g.row.V.Denot). s.pairs) c.self.view_is in
    let li : c.args.index < length old = omega (arith, ap length viewed, c.requires) in
    c.swap_remove.ensures.items ∙ (swap_out-is old c.args.index c.swap_remove.result li ∙ ap (λ ps. swap_out ps c.args.index) viewed)
