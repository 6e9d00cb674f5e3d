use Rattle.std.proofs.Common.{arith}
use Rattle.std.proofs.lemmas.Grind.{common_steps}
use Rattle.ijson_string.proofs.text.IString.as_str.Goals as goal

pub returns-in-InPlace : goal.returns-in-InPlace
returns-in-InPlace c = grind (arith, common_steps)
