use Rattle.std.proofs.Common.{◌∙◌, ap, is_ok}
use Rattle.ijson_value.specs.Step.{by_key, tree_with}
use Rattle.ijson.proofs.test_lemmas.PutInside.{is_put_inside}
use Rattle.ijson.proofs.tests.pointer.lent.put_by_path.Goals as goal

pub returns-clause-there : goal.returns-clause-there
returns-clause-there c =
    is_put_inside c.deref_mut.result.now _ c.args.key c.put_true.new.place
    (c.index_or_insert.follows.holds c.put_true.new.place (ap is_ok c.in_ok-place.was))
    ∙ ap (λ v. tree_with v.tree (by_key c.args.key) c.put_true.new.place.tree) c.deref_mut.ensures.value
    ∙ ap (λ w. tree_with c.args.value.now.tree (by_key c.args.key) w.tree) c.put_true.ensures
