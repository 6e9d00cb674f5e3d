use Rattle.ijson_number.proofs.Common.{◌∙◌, ap, Num, form_number}
use Rattle.ijson_number.specs.laws.Codes.{num_same}
use Rattle.ijson_number.proofs.number.INumberClone.clone.Goals as goal

pub returns : goal.returns
returns c = record { cases = num_same _ _ (ap form_number c.in_ok-stored.ensures.cases.form ∙ ap (λ (n : Num). n.decimal) c.self.view_is) }
