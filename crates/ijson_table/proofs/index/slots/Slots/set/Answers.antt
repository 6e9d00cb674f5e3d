use Rattle.std.proofs.Common.{◌∙◌, ap, sym, set}
use Rattle.ijson_table.specs.private.NarrowSlots.{stored_slots}
use Rattle.ijson_table.proofs.slots.StoredSlots.{few-set, narrow-set}
use Rattle.ijson_table.proofs.index.slots.Slots.set.Goals as goal

pub returns-in-Few : goal.returns-in-Few
returns-in-Few c =
    few-set c.in-Few.few.count c.in-Few.few.slots c.args.slot c.stored.result c.args.entry c.stored.ensures
    ∙ ap (λ slots. set slots c.args.slot c.args.entry) (ap stored_slots (sym c.in-Few.is) ∙ c.self.view_is)

pub returns-in-Narrow : goal.returns-in-Narrow
returns-in-Narrow c =
    narrow-set c.in-Narrow.slots.items c.args.slot c.stored-in-Narrow.result c.args.entry c.stored-in-Narrow.ensures
    ∙ ap (λ slots. set slots c.args.slot c.args.entry) (ap stored_slots (sym c.in-Narrow.is) ∙ c.self.view_is)
