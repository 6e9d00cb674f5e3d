use Rattle.ijson_number.proofs.Common.{◌<◌, ◌^◌, rules, pos}
use Rattle.ijson_number.proofs.storing.IntegerWords.{word_num, word_form, word_integer, unsigned_fits}
use Rattle.ijson_number.proofs.integers.INumberFromU64.from.Goals as goal

pub invariant_of-result : goal.invariant_of-result
invariant_of-result c =
    let word : c.args.value < 2 ^ 64 = search rules in
    (word_num (pos c.args.value) word _ (λ _. unsigned_fits c.args.value word) c.encode_unsigned.ensures, tt)

pub invariant_of-result-2 : goal.invariant_of-result-2
invariant_of-result-2 c =
    let word : c.args.value < 2 ^ 64 = search rules in
    word_form (pos c.args.value) word _ (λ _. unsigned_fits c.args.value word) c.encode_unsigned.ensures

pub returns : goal.returns
returns c =
    let word : c.args.value < 2 ^ 64 = search rules in
    word_integer (pos c.args.value) word _ (λ _. unsigned_fits c.args.value word) c.encode_unsigned.ensures
