use Rattle.std.proofs.Common.{◌≡◌, refl, ap, subst, Some}
use Rattle.std.specs.Prelude.{slice_get}
use Rattle.ijson_table.specs.Store.{Store}
use Rattle.ijson_table.specs.StoreWithValue.{store_with_value}
use Rattle.ijson_value.specs.WellFormed.{WellFormed}
use Rattle.ijson_value.proofs.pairs.PairLookups.{opened}
use Rattle.ijson_value.proofs.object.map.IObject.pair_mut.Goals as goal

pub returns : goal.returns
returns c =
    let same = opened c.self.inside.table c.as_mut.result c.unwrap.result c.deref_mut.result c.args.self.now
    c.as_mut.ensures.value c.unwrap.ensures c.deref_mut.ensures.value c.self.view_is in (
      (refl, λ w. ap (λ (s : Store WellFormed). store_with_value s c.args.index w) same),
      record {
        writes_back = tt;
        pair = subst (λ (s : Store WellFormed). slice_get s.pairs c.args.index ≡ Some (c.pair_mut.result.0.now, c.pair_mut.result.1.now))
            same c.pair_mut.ensures.pair;
      },
    )
