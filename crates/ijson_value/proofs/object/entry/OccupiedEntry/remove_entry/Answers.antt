use Rattle.std.proofs.Common.{sym, ◌∙◌}
use Rattle.ijson_value.proofs.pairs.Entries.{key_got, swap_out_there}
use Rattle.ijson_value.proofs.object.entry.OccupiedEntry.remove_entry.Goals as goal

pub returns-clause-key : goal.returns-clause-key
returns-clause-key c =
    let o = c.args.self in
    sym (key_got o.object.now.pairs o.index c.swap_out.result c.swap_out.ensures.pair)

pub returns-clause-removed : goal.returns-clause-removed
returns-clause-removed c =
    let o = c.args.self in
    c.swap_out.ensures.pairs ∙ swap_out_there o.object.now o.index o.valid
