use Rattle.std.proofs.Common.{◌≡◌, ◌||◌}
use Rattle.ijson_value.specs.WellFormed.{WellFormed}
use Rattle.ijson_value.specs.laws.EqualAmong.{has_equal}
use Rattle.ijson.proofs.examples.dedupe.without_repeats.Given as goal

-- A value is equal to an element exactly if it is equal to a seen or a remaining element.
abbrev pub invariant-loop-item : goal.invariant-loop-item
invariant-loop-item l = (v : WellFormed) → (has_equal v l.seen.keys || has_equal v l.item-iterator) ≡ has_equal v l.fn.items.items
