use Rattle.std.proofs.Common.{refl, sym, ap, ◌∙◌}
use Rattle.ijson_value.specs.private.Boxed.{list_items}
use Rattle.ijson_value.specs.private.LendsList.{with_list_items}
use Rattle.ijson_value.proofs.array.index.items_mut.Goals as goal

pub returns-in-None : goal.returns-in-None
returns-in-None c = (
  (refl, λ w. c.in-None.is ∙ ap (λ place. with_list_items place w) (sym c.in-None.is)),
  record { writes_back = tt; items = c.no_items.ensures.items ∙ ap list_items (sym c.in-None.is) },
)
