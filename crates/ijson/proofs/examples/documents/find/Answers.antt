use Rattle.ijson.proofs.example_lemmas.Documents.{found_at, none_at}
use Rattle.ijson.proofs.examples.documents.find.Goals as goal

pub returns-clause-some : goal.returns-clause-some
returns-clause-some c = found_at c.args.documents.now.keys c.args.document.now.tree c.get_index_of.result c.get_index_of.ensures.index

pub returns-clause-none : goal.returns-clause-none
returns-clause-none c = none_at c.args.documents.now.keys c.args.document.now.tree c.get_index_of.result c.get_index_of.ensures.found
