use Rattle.ijson_value.specs.InsertsEach.{InsertsEach}
use Rattle.ijson_value.proofs.object.map.IObject.extend.Given as goal

abbrev pub invariant-loop-key : goal.invariant-loop-key
invariant-loop-key g l =
    (goal.iterator-loop-key g).can_next l.key-iterator
    × (goal.iterator-loop-key g).is_finite l.key-iterator
    × InsertsEach l.initial.self.pairs l.initial.self.capacity l.yielded l.self.pairs l.self.capacity
