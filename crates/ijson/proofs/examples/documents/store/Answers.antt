use Rattle.std.proofs.Common.{refl}
use Rattle.ijson_value.specs.laws.SameDecided.{decides}
use Rattle.ijson.proofs.example_lemmas.Documents.{is_stored}
use Rattle.ijson.proofs.examples.documents.store.Goals as goal

pub returns-clause-found : goal.returns-clause-found
returns-clause-found c =
    let stored = c.in_ok-position.ensures.stored in
    (stored.0, stored.1, (decides c.args.document.tree stored.0.tree).0 stored.2)

pub returns-clause-stores : goal.returns-clause-stores
returns-clause-stores c =
    is_stored c.args.documents.now.keys c.insert_full.new.self.keys c.args.document _ c.in_ok-position.position refl
    c.in_ok-position.ensures.keys (returns-clause-found c)
