use Rattle.std.proofs.lemmas.Result.{IfOk-weaker}
use Rattle.ijson_value.proofs.FromMaps.{unique_keys, map_gives, entries_given}
use Rattle.ijson_value.proofs.object.map.IObject.from_hash_map.Goals as goal

pub from_distinct_pairs-requires-clause-gives : goal.from_distinct_pairs-requires-clause-gives
from_distinct_pairs-requires-clause-gives g c = map_gives (λ it begun. begun.0) c.len.ensures.len
    (unique_keys (λ k. k) c.args.map.entries c.len.ensures.unique)

pub returns-clause-pairs : goal.returns-clause-pairs
returns-clause-pairs g c = IfOk-weaker c.from_distinct_pairs.result _ _
    (λ object given. entries_given given.1.0 object.pairs given.2) c.from_distinct_pairs.ensures.pairs
