use Rattle.ijson_number.proofs.Common.{rules, FitsSigned, to_z-of_z, w64}
use Rattle.ijson_number.proofs.storing.IntegerWords.{word_num, word_form, word_integer, signed_small, signed_known}
use Rattle.ijson_number.proofs.integers.INumberFromI64.from.Goals as goal

pub invariant_of-result : goal.invariant_of-result
invariant_of-result c =
    let z = c.args.value in
    let word : FitsSigned w64 z = search rules in
    (word_num z (signed_small z word) _ (signed_known z word) (rw (to_z-of_z w64 z word) at c.encode_signed.ensures), tt)

pub invariant_of-result-2 : goal.invariant_of-result-2
invariant_of-result-2 c =
    let z = c.args.value in
    let word : FitsSigned w64 z = search rules in
    word_form z (signed_small z word) _ (signed_known z word) (rw (to_z-of_z w64 z word) at c.encode_signed.ensures)

pub returns : goal.returns
returns c =
    let z = c.args.value in
    let word : FitsSigned w64 z = search rules in
    word_integer z (signed_small z word) _ (signed_known z word) (rw (to_z-of_z w64 z word) at c.encode_signed.ensures)
