use Rattle.std.proofs.Common.{rules}
use Rattle.ijson_value.proofs.hashing.Feeds.{object_fed}
use Rattle.ijson_value.proofs.hash.hash_pairs.Goals as goal

pub returns : goal.returns
returns g c =
    object_fed g.H.Hasher.write c.args.state.now c.write_u64.new.self c.write_u64-2.new.self
    c.write_u64-3.new.self c.sum_of_pairs.result c.args.pairs.now c.write_u64.ensures (search rules)
    (search rules) c.write_u64-3.ensures
