use Rattle.std.proofs.Common.{ap, sym, ◌∙◌}
use Rattle.std.specs.Option.{option_or}
use Rattle.ijson_value.specs.Step.{by_key, tree_at}
use Rattle.ijson_value.specs.Values.{object_tree}
use Rattle.ijson_value.specs.WellFormed.{WellFormed}
use Rattle.ijson_value.specs.laws.TreeLookups.{at_key-over}
use Rattle.ijson.proofs.examples.settings.overlay.Goals as goal

pub returns-clause-laid_over : goal.returns-clause-laid_over
returns-clause-laid_over c = λ _ key.
    at_key-over c.in-Ok.over.pairs c.in-Some.base.now.pairs c.overlay.new.self.pairs key (c.in_ok-overlay.ensures.each key)
    ∙ (ap (λ (v : WellFormed). option_or (tree_at v.tree (by_key key)) (tree_at (object_tree c.in-Some.base.now.pairs) (by_key key)))
    (sym c.in-Ok.ensures.ok)
    ∙ ap (λ (v : WellFormed). option_or (tree_at c.args.over.tree (by_key key)) (tree_at v.tree (by_key key))) (sym c.in-Some.ensures.some))
