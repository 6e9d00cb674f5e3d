use Rattle.ijson_value.specs.Values.{array_tree, object_tree}
use Rattle.ijson_value.specs.laws.Equality.{same_is}
use Rattle.ijson_value.proofs.value.DestructuredPartialEq.eq.Goals as goal

pub returns-in-Array-other : goal.returns-in-Array-other
returns-in-Array-other c =
    let a = c.in-Array.eq-arg-in-Array-1-own.given in
    let b = c.in-Array-other.eq-arg-in-Array-1-own.given in
    rw a.1 (rw b.1 (same_is (array_tree a.0.0.items) (array_tree b.0.0.items)
    c.eq-in-Array-other.result c.eq-in-Array-other.ensures))

pub returns-in-Object-other : goal.returns-in-Object-other
returns-in-Object-other c =
    let a = c.in-Object.eq-arg-in-Object-1-own.given in
    let b = c.in-Object-other.eq-arg-in-Object-1-own.given in
    rw a.1 (rw b.1 (same_is (object_tree a.0.0.pairs) (object_tree b.0.0.pairs)
    c.eq-in-Object-other.result c.eq-in-Object-other.ensures))
