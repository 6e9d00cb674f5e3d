use Rattle.std.proofs.Common.{rules, sym, ap, ◌∙◌}
use Rattle.std.specs.Prelude.{option_map, slice_get}
use Rattle.ijson_value.specs.NodeValue.{node_value}
use Rattle.ijson_value.specs.Sequence.{Sequence}
use Rattle.ijson_value.specs.Step.{by_position, tree_at}
use Rattle.ijson_value.specs.WellFormed.{tree_of}
use Rattle.ijson_value.specs.laws.Steps.{item_at}
use Rattle.ijson_value.proofs.Found.{lent_tree}
use Rattle.ijson_value.proofs.value.index.UsizeValueIndex.index_opened_mut.Goals as goal

pub returns-in-Array : goal.returns-in-Array
returns-in-Array c = (
  search rules,
  record {
    writes_back = tt;
    value = lent_tree c.get_mut.result ∙ ap (option_map tree_of) c.get_mut.ensures.item
        ∙ ap (λ (a : Sequence). option_map tree_of (slice_get a.items c.args.index)) c.in-Array.array-is
        ∙ item_at c.in-Array.array.items c.args.index
        ∙ ap (λ n. tree_at (node_value n).tree (by_position c.args.index)) (sym c.in-Array.is);
  },
)
