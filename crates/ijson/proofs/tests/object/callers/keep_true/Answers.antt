use Rattle.std.proofs.Common.{◌≡◌, rules, true, false, ◌∷◌, []}
use Rattle.ijson.proofs.test_lemmas.Kept.{second_kept, tells_false}
use Rattle.ijson_value.specs.Values.{boolean_value}
use Rattle.ijson.proofs.tests.object.callers.keep_true.Goals as goal

pub returns-clause-list : goal.returns-clause-list
returns-clause-list c =
    second_kept _ (λ f key v keeps w g a. let called = a.called in let shows = a.shows in let leaves = a.leaves in
    search rules) _ c.args.first.now c.args.second.now (boolean_value false) (boolean_value true) _
    (λ f key keeps w g a. let called = a.called in tells_false keeps a.value.now a.shows.1 (search rules))
    (λ f key keeps w g a. let called = a.called in let shows = a.shows in let leaves = a.leaves in search rules)
    (rw c.requires at c.retain.ensures.pairs)

pub returns-clause-seen : goal.returns-clause-seen
returns-clause-seen c =
    let left : c.retain.new.self.pairs ≡ (c.args.second.now, boolean_value true) ∷ [] = returns-clause-list c in
    search rules
