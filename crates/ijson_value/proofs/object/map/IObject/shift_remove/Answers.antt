use Rattle.ijson_value.proofs.pairs.PairLookups.{taken_value}
use Rattle.ijson_value.proofs.object.map.IObject.shift_remove.Goals as goal

pub returns-in_default-clause-value : goal.returns-in_default-clause-value
returns-in_default-clause-value g c = taken_value c.args.self.now.pairs (g.I.Sealed.key c.args.key) _ c.in_default.ensures.pair

pub returns-clause-value : goal.returns-clause-value
returns-clause-value g c = taken_value c.args.self.now.pairs (g.I.Sealed.key c.args.key) _ c.in-Some.ensures.pair
