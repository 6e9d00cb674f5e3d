use Rattle.ijson_number.proofs.Common.{arith, common_steps}
use Rattle.ijson_number.proofs.encode.encode_unsigned.Goals as goal

pub returns-in-Err : goal.returns-in-Err
returns-in-Err c = grind (arith, common_steps)
