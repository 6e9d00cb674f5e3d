use Rattle.std.proofs.Common.{◌≡◌, ◌∙◌, ap, rules}
use Rattle.std.proofs.lemmas.Result.{on_ok_weaker}
use Rattle.ijson_table.specs.Store.{Store, lookup, put_each}
use Rattle.ijson_value.specs.FindsEntry.{FindsNoRoom}
use Rattle.ijson_value.specs.InsertsEach.{InsertsEach}
use Rattle.ijson_value.specs.WellFormed.{WellFormed}
use Rattle.ijson_value.specs.laws.Lookups.{lookup-put_each}
use Rattle.ijson_value.proofs.pairs.Given.{list_put, all_put, some_put}
use Rattle.ijson_value.proofs.object.map.IObject.overlay.Goals as goal

pub returns-clause-inserts : goal.returns-clause-inserts
returns-clause-inserts c =
    let old : Store WellFormed = c.args.self.now in let new : Store WellFormed = c.extend.new.self in
    all_put c.args.other.pairs c.extend.result (λ refused. (refused.key, refused.value))
    (λ refused. FindsNoRoom new refused.key refused.why)
    (λ ps. InsertsEach old.pairs old.capacity ps new.pairs new.capacity) (search rules)

pub returns-clause-pairs : goal.returns-clause-pairs
returns-clause-pairs c =
    let old : Store WellFormed = c.args.self.now in let new : Store WellFormed = c.extend.new.self in
    list_put c.args.other.pairs c.extend.result (λ ps. new.pairs ≡ put_each old.pairs ps) (search c.extend.ensures.list)

pub returns-clause-each : goal.returns-clause-each
returns-clause-each c = on_ok_weaker c.extend.result (λ is key. ap (lookup key) is
    ∙ lookup-put_each c.args.self.now.pairs c.args.other.pairs c.args.other.distinct key) (returns-clause-pairs c)

pub returns-clause-refused : goal.returns-clause-refused
returns-clause-refused c =
    let old : Store WellFormed = c.args.self.now in let new : Store WellFormed = c.extend.new.self in
    some_put c.args.other.pairs c.extend.result (λ refused. (refused.key, refused.value))
    (λ refused. FindsNoRoom new refused.key refused.why)
    (λ ps. InsertsEach old.pairs old.capacity ps new.pairs new.capacity) (search rules)
