use Rattle.std.proofs.Common.{◌≡◌, ◌^◌, length, get_or, arith, rules}
use Rattle.std.proofs.NetLemmas.Arrays.{four_items}
use Rattle.ijson_table.specs.Fold.{fold_word}
use Rattle.ijson_table.proofs.arithmetic.FoldSteps.{four_steps}
use Rattle.ijson_table.proofs.hash.add_four.Goals as goal

pub returns : goal.returns
unfolding fold_word
returns c =
    let words = c.args.words in
    let len : length words ≡ 4 = omega arith in
    let steps = four_steps (2 ^ 64) 1099511628211 c.args.hash (get_or words 0 0) (get_or words 1 0) (get_or words 2 0) (get_or words 3 0) in
    rw (c.from.ensures, c.from-2.ensures, c.from-3.ensures, c.from-4.ensures, four_items words len) (search (rules, steps))
