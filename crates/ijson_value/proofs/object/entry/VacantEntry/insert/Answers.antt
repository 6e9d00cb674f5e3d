use Rattle.std.proofs.Common.{◌≡◌, ◌++◌, ◌∷◌, [], ℕ, refl, sym, ap, ◌∙◌}
use Rattle.std.specs.Prelude.{slice_get}
use Rattle.ijson_table.proofs.pairs.SameStores.{store_path}
use Rattle.ijson_table.specs.Store.{Store, with_value}
use Rattle.ijson_table.specs.StoreWithValue.{store_with_value}
use Rattle.ijson_value.specs.declared.object.entry.Entry.TheVariants.{Vacant}
use Rattle.ijson_value.specs.WellFormed.{WellFormed}
use Rattle.ijson_value.specs.WithEntry.{with_entry}
use Rattle.ijson_value.proofs.pairs.Entries.{written_last, got_last, same_value}
use Rattle.ijson_value.proofs.object.entry.VacantEntry.insert.Goals as goal

pub returns : goal.returns
returns c =
    let e = c.args.self in let old : Store WellFormed = e.object.now in let new : Store WellFormed = c.push_hashed.new.self in
    let index : ℕ = c.len-index.result in
    let pushed : new.pairs ≡ old.pairs ++ (e.key, c.args.value) ∷ [] = c.push_hashed.ensures.pairs in
    let got = c.value_mut.ensures.value in (
      (
        refl,
        λ w. store_path (store_with_value new index w) (with_entry (Vacant e) w)
            (ap (λ ps. with_value ps index w) pushed
            ∙ (ap (λ i. with_value (old.pairs ++ (e.key, c.args.value) ∷ []) i w) c.len-index.ensures
            ∙ written_last old.pairs e.key c.args.value w))
            c.push_hashed.ensures.capacity,
      ),
      record {
        writes_back = tt;
        value = same_value (sym got.1 ∙ ((λ i. slice_get (pushed i) (c.len-index.ensures i)) ∙ got_last old.pairs e.key c.args.value));
      },
    )
