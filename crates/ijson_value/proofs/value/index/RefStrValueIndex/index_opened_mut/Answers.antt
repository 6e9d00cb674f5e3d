use Rattle.std.proofs.Common.{rules, sym, ap, ◌∙◌}
use Rattle.std.specs.Prelude.{option_map}
use Rattle.ijson_table.specs.Store.{Store, lookup}
use Rattle.ijson_value.specs.NodeValue.{node_value}
use Rattle.ijson_value.specs.Step.{by_key, tree_at}
use Rattle.ijson_value.specs.WellFormed.{WellFormed, tree_of}
use Rattle.ijson_value.specs.laws.Steps.{value_at}
use Rattle.ijson_value.proofs.Found.{lent_tree}
use Rattle.ijson_value.proofs.value.index.RefStrValueIndex.index_opened_mut.Goals as goal

pub returns-in-Object : goal.returns-in-Object
returns-in-Object c = (
  search rules,
  lent_tree c.get_mut.result ∙ ap (option_map tree_of) c.get_mut.ensures.value
      ∙ ap (λ (o : Store WellFormed). option_map tree_of (lookup c.args.index.now o.pairs)) c.in-Object.object-is
      ∙ value_at c.in-Object.object.pairs c.args.index.now
      ∙ ap (λ n. tree_at (node_value n).tree (by_key c.args.index.now)) (sym c.in-Object.is),
)
