use Rattle.std.proofs.Common.{refl, sym, ap, subst, ◌∙◌, Option, [], get_or, rules}
use Rattle.std.specs.Map.Calls.{MayWrite, ModifiesValue}
use Rattle.ijson_table.specs.laws.Store.{keys-with_value}
use Rattle.ijson_value.specs.EntryParts.{entry_key, entry_value}
use Rattle.ijson_value.specs.WellFormed.{WellFormed}
use Rattle.ijson_value.specs.WithEntry.{with_entry}
use Rattle.ijson_value.proofs.pairs.Entries.{store_twice, value_set}
use Rattle.ijson_value.proofs.object.entry.Entry.and_modify.Goals as goal

pub returns-in-Occupied-clause-same_key : goal.returns-in-Occupied-clause-same_key
returns-in-Occupied-clause-same_key g c =
    let o = c.in-Occupied.entry in
    ap (λ ks. get_or ks o.index []) (keys-with_value o.object.now.pairs o.index _) ∙ sym (ap entry_key c.in-Occupied.is)

pub returns-in-Occupied-clause-same_writes : goal.returns-in-Occupied-clause-same_writes
returns-in-Occupied-clause-same_writes g c w =
    let o = c.in-Occupied.entry in
    store_twice o.object.now o.index _ w ∙ sym (ap (λ e. with_entry e w) c.in-Occupied.is)

pub returns-in-Occupied-clause-update : goal.returns-in-Occupied-clause-update
returns-in-Occupied-clause-update g c =
    let o = c.in-Occupied.entry in let w = c.change.new.arg2 in
    let old = ap entry_value c.in-Occupied.is ∙ c.get_mut.ensures.value in let new = value_set o.object.now.pairs o.index w o.valid in
    let did : MayWrite g.F.FnOnce c.args.change c.get_mut.result.now w =
    let left = record c.get_mut.result { now = w } in
    record { lent = c.get_mut.result; result = c.change.result; left = left; before = refl; met = search rules; after = refl } in
    subst (λ (p : Option WellFormed × Option WellFormed). ModifiesValue g.F.FnOnce c.args.change p.0 p.1) (λ i. (sym old i, sym new i)) did
