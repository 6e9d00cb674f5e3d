use Rattle.std.proofs.Common.{[], ◌∷◌}
use Rattle.std.proofs.lemmas.Result.{err_from_is_err_and}
use Rattle.ijson_convert.proofs.Pushing.{first_fails, then_pushed}
use Rattle.ijson_convert.proofs.tuples_to.push_both.Goals as goal

pub returns-in_err-push_of : goal.returns-in_err-push_of
returns-in_err-push_of g c =
    let p = err_from_is_err_and c.from_residual.result c.from_residual.ensures.1 in
    rw (p.1, p.2) (first_fails (g.B.ToIValue.tree c.args.y.now ∷ []) c.in_err-push_of.ensures)

pub returns : goal.returns
returns g c = then_pushed c.in_ok-push_of.ensures c.push_of-2.ensures
