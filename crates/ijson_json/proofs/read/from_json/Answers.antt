use Rattle.std.proofs.Common.{rules}
use Rattle.ijson_json.proofs.faults.WholeTexts.{answers_read, answers_refused}
use Rattle.ijson_json.proofs.read.from_json.Goals as goal

pub returns-clause-read : goal.returns-clause-read
returns-clause-read g c = answers_read c.args.text.now _ (search rules)

pub returns-clause-refused : goal.returns-clause-refused
returns-clause-refused g c = answers_refused c.args.text.now _ (search rules)
