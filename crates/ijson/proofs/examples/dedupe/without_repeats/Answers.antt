use Rattle.std.proofs.Common.{ap, sym, ◌∙◌, ◌||◌}
use Rattle.ijson_value.specs.laws.EqualAmong.{has_equal, has_equal-moved}
use Rattle.ijson.proofs.examples.dedupe.without_repeats.Goals as goal

pub loop-item-preserved : goal.loop-item-preserved
loop-item-preserved c = λ v.
    has_equal-moved v c.in-Some.item c.loop-item.seen.keys c.insert.new.self.keys c.next.new.self (c.in_ok-_new.ensures.updates.0 v)
    ∙ (ap (λ vs. has_equal v c.loop-item.seen.keys || has_equal v vs) (sym c.in-Some.ensures.steps) ∙ c.loop-item.invariant v)
