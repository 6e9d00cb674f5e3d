use Rattle.std.proofs.Common.{sym, ap, ◌∙◌}
use Rattle.std.specs.Prelude.{option_map}
use Rattle.ijson_value.specs.NodeValue.{node_value}
use Rattle.ijson_value.specs.Step.{by_key, tree_at}
use Rattle.ijson_value.specs.WellFormed.{tree_of}
use Rattle.ijson_value.specs.laws.Steps.{value_at}
use Rattle.ijson_value.proofs.Found.{found_tree}
use Rattle.ijson_value.proofs.value.index.RefStrSealed.find_in.Goals as goal

pub returns-in-Object : goal.returns-in-Object
returns-in-Object c =
    found_tree c.get.result
    ∙ ap (option_map tree_of) c.get.ensures
    ∙ value_at c.in-Object.object.pairs c.args.self.now
    ∙ ap (λ n. tree_at (node_value n).tree (by_key c.args.self.now)) (sym c.in-Object.is)
