use Rattle.std.proofs.Common.{ℕ, rules, tests, sym, subst}
use Rattle.std.proofs.lemmas.Iterator.{YieldsList-from_slice, YieldsList-from_zip}
use Rattle.std.proofs.lemmas.Iterator.Consumers.{YieldsList-at, count_from_yields_List}
use Rattle.std.proofs.lemmas.Iterator.Search.{YieldsList-from_take_while}
use Rattle.ijson_json.specs.private.Explains.{CommonFront}
use Rattle.ijson_json.proofs.scanning.CommonFronts.{is_same, common_front}
use Rattle.ijson_json.proofs.scan.prefix.common_length.Goals as goal

pub returns : goal.returns
returns c =
    let text = c.args.text.now in
    let word = c.args.word.now in
    let pairs = YieldsList-from_zip (YieldsList-at c.zip-bytes.ensures.first (YieldsList-from_slice text (search rules)))
    (YieldsList-at c.zip-bytes.ensures.second (YieldsList-from_slice word (search rules))) in
    let same = count_from_yields_List _ c.count.result c.count.ensures.ran
    (YieldsList-from_take_while _ is_same (YieldsList-at c.take_while.ensures.source pairs) c.take_while.ensures.closure
    c.take_while.ensures.done (λ x b q h. search (rules, tests))) in
    subst (λ (n : ℕ). CommonFront text word n) (sym same) (common_front text word)
