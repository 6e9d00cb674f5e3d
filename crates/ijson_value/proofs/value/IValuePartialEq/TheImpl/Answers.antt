use Rattle.ijson_value.specs.laws.Equality.{same_is}
use Rattle.ijson_value.proofs.value.IValuePartialEq.TheImpl.Goals as goal

pub eq-tells : goal.eq-tells
eq-tells c = same_is c.args.self.now.tree c.args.other.now.tree c.result c.ensures
