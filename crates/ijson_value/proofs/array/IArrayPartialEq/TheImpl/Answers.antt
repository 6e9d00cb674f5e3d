use Rattle.ijson_value.specs.Values.{array_tree}
use Rattle.ijson_value.specs.laws.Equality.{same_is}
use Rattle.ijson_value.proofs.array.IArrayPartialEq.TheImpl.Goals as goal

pub eq-tells : goal.eq-tells
eq-tells c = same_is (array_tree c.args.self.now.items) (array_tree c.args.other.now.items) c.result c.ensures
