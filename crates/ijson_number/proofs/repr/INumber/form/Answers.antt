use Rattle.ijson_number.proofs.Alike.{alike_form, text_tells}
use Rattle.ijson_number.proofs.repr.INumber.form.Goals as goal

pub returns-clause-alike : goal.returns-clause-alike
returns-clause-alike c = λ other h. alike_form c.args.self.now other _ c.form_of_stored.ensures h

pub returns-clause-text : goal.returns-clause-text
returns-clause-text c = λ other. text_tells c.args.self.now other
