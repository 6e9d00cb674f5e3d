use Rattle.ijson_value.specs.Values.{object_tree}
use Rattle.ijson_value.specs.laws.Equality.{same_is}
use Rattle.ijson_value.proofs.object.map.IObjectPartialEq.TheImpl.Goals as goal

pub eq-tells : goal.eq-tells
eq-tells c = same_is (object_tree c.args.self.now.pairs) (object_tree c.args.other.now.pairs) c.result c.ensures
