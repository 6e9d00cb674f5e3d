use Rattle.std.proofs.Common.{[], ◌∷◌}
use Rattle.ijson_convert.proofs.Pushing.{first_fails, then_pushed}
use Rattle.ijson_convert.proofs.Refusals.{passed_on}
use Rattle.ijson_convert.proofs.tuples_to.Tuple4ToIValue.to_ivalue.Goals as goal

pub returns-in_err-push_both-clause-refused : goal.returns-in_err-push_both-clause-refused
returns-in_err-push_both-clause-refused g c =
    passed_on _ _ c.from_residual-in_err-push_both.ensures.1
    (first_fails (g.C.ToIValue.tree c.args.self.now.2 ∷ g.D.ToIValue.tree c.args.self.now.3 ∷ []) c.in_err-push_both.ensures).refused

pub returns-in_err-push_both-2-clause-refused : goal.returns-in_err-push_both-2-clause-refused
returns-in_err-push_both-2-clause-refused g c =
    passed_on _ _ c.from_residual-in_err-push_both-2.ensures.1 (then_pushed c.in_ok-push_both.ensures c.in_err-push_both-2.ensures).refused

pub returns-clause-cache : goal.returns-clause-cache
returns-clause-cache g c = (then_pushed c.in_ok-push_both.ensures c.in_ok-push_both-2.ensures).ok.1
