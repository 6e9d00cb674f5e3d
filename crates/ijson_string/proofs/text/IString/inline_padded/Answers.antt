use Rattle.std.proofs.Common.{arith}
use Rattle.std.proofs.lemmas.Grind.{common_steps}
use Rattle.ijson_string.proofs.text.IString.inline_padded.Goals as goal

pub returns-in-InPlace-clause-short : goal.returns-in-InPlace-clause-short
returns-in-InPlace-clause-short c = grind (arith, common_steps)
