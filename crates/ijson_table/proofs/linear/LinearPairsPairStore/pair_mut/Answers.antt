use Rattle.std.proofs.Common.{◌≡◌, ◌<◌, length, arith, ap, ◌∙◌, refl}
use Rattle.ijson_table.specs.Store.{Store, with_value}
use Rattle.ijson_table.proofs.pairs.PairsByKey.{set-value, distinct_set, slice_get-seen}
use Rattle.ijson_table.proofs.pairs.SameStores.{store_path}
use Rattle.ijson_table.proofs.linear.LinearPairsPairStore.pair_mut.Goals as goal

pub invariant_of-self-inside-lent : goal.invariant_of-self-inside-lent
invariant_of-self-inside-lent g c = λ w.
    let old = c.self.inside.pairs.items in
    let li : c.args.index < length old = omega (arith, ap (λ (s : Store g.row.V.Denot). length s.pairs) c.self.view_is, c.requires) in
    (distinct_set old c.args.index c.index_mut-pair.result.now w li c.index_mut-pair.ensures.value c.self.inside.distinct, tt)

pub returns : goal.returns
returns g c =
    let old = c.self.inside.pairs.items in
    let pair = c.index_mut-pair.result.now in
    let viewed : old ≡ c.args.self.now.pairs = ap (λ (s : Store g.row.V.Denot). s.pairs) c.self.view_is in (
      (
        refl,
        λ w. store_path _ _
            (set-value old c.args.index pair w (omega (arith, ap length viewed, c.requires)) c.index_mut-pair.ensures.value
            ∙ ap (λ ps. with_value ps c.args.index w) viewed)
            (ap (λ (s : Store g.row.V.Denot). s.capacity) c.self.view_is),
      ),
      record {
        writes_back = tt;
        pair = slice_get-seen old c.args.self.now.pairs c.args.index pair viewed c.requires c.index_mut-pair.ensures.value;
      },
    )
