use Rattle.std.proofs.Common.{ap, arith}
use Rattle.ijson_string.specs.private.Table.{Table}
use Rattle.ijson_string.proofs.KeysAt.{as_many_keys, clone_there}
use Rattle.ijson_string.proofs.table.TextTable.share_at.Goals as goal

pub index-requires : goal.index-requires
index-requires c =
    let many = as_many_keys c.self.inside.links.items c.self.inside.texts.items c.args.self.now.keys c.self.invariant.1
    (ap (λ (t : Table). t.keys) c.self.view_is) in
    omega (arith, many, c.self.invariant.1, c.requires.0)

pub returns-clause-text : goal.returns-clause-text
returns-clause-text c =
    clone_there c.self.inside.links.items c.self.inside.texts.items c.args.self.now.keys c.self.invariant.1
    (ap (λ (t : Table). t.keys) c.self.view_is) _ c.clone-shared.result c.args.position c.index.result.now c.args.text.now
    c.requires c.index.ensures c.clone-shared.ensures.cases
