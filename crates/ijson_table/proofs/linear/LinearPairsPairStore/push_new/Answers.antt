use Rattle.std.proofs.Common.{ap, refl}
use Rattle.ijson_table.specs.Store.{Store}
use Rattle.ijson_table.proofs.pairs.NewPairs.{still_distinct}
use Rattle.ijson_table.proofs.linear.LinearPairsPairStore.push_new.Goals as goal

pub invariant_of-self-inside : goal.invariant_of-self-inside
invariant_of-self-inside g c =
    let viewed = ap (λ (s : Store g.row.V.Denot). s.pairs) c.self.view_is in
    (still_distinct c.args.key c.args.value viewed c.push_reserved.ensures.items refl c.requires.missing c.self.inside.distinct, tt)
