use Rattle.std.proofs.Common.{refl, rules}
use Rattle.ijson_convert.proofs.serde_trees.SerdeNumbers.{means_unsigned, means_signed, number_unmeant}
use Rattle.ijson_convert.proofs.serde.to_serde_number.Goals as goal

pub returns-in-Some-clause-number : goal.returns-in-Some-clause-number
returns-in-Some-clause-number c = means_unsigned _ c.in-Some.unsigned _ (search rules) (search rules) c.in-Some.ensures.some

pub returns-in-Some-to_i64-clause-number : goal.returns-in-Some-to_i64-clause-number
returns-in-Some-to_i64-clause-number c =
    means_signed _ c.in-Some-to_i64.signed _ (search rules) (search rules) c.in-Some-to_i64.ensures.some

pub returns-in-None-clause-refused : goal.returns-in-None-clause-refused
returns-in-None-clause-refused c = (refl, number_unmeant _ c.in_default.ensures.none c.in-None.ensures.none)
