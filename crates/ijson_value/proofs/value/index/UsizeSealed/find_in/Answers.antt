use Rattle.std.proofs.Common.{sym, ap, ◌∙◌, List}
use Rattle.std.specs.Prelude.{option_map, slice_get}
use Rattle.ijson_value.specs.NodeValue.{node_value}
use Rattle.ijson_value.specs.Step.{by_position, tree_at}
use Rattle.ijson_value.specs.WellFormed.{WellFormed, tree_of}
use Rattle.ijson_value.specs.laws.Steps.{item_at}
use Rattle.ijson_value.proofs.Found.{item_tree}
use Rattle.ijson_value.proofs.value.index.UsizeSealed.find_in.Goals as goal

pub returns-in-Array : goal.returns-in-Array
returns-in-Array c =
    let found = c.get.ensures.lookup in
    item_tree c.get.result c.as_slice.result.now c.args.self found.3 found.1
    ∙ ap (λ (vs : List WellFormed). option_map tree_of (slice_get vs c.args.self)) c.as_slice.ensures
    ∙ item_at c.in-Array.array.items c.args.self
    ∙ ap (λ n. tree_at (node_value n).tree (by_position c.args.self)) (sym c.in-Array.is)
