use Rattle.std.proofs.Common.{◌≡◌, ◌∷◌, sym}
use Rattle.ijson_json.proofs.reading.Escapes.{escape_found, escape_wide}
use Rattle.ijson_json.proofs.scanning.Options.{weaken}
use Rattle.ijson_json.proofs.read.escape.take_escape.Goals as goal

pub returns-in_err-letter : goal.returns-in_err-letter
returns-in_err-letter c = rw c.from_residual-in_err-letter.ensures
    (escape_wide c.args.text.now c.in_ok-letters.letters.now c.in_ok-letters.ensures c.in_err-letter.ensures.cases)

pub returns-then-letter-eq117 : goal.returns-then-letter-eq117
returns-then-letter-eq117 c =
    let e : c.args.text.now ≡ 92 ∷ 117 ∷ c.in_ok-letter.rest.now =
    cc (c.in_ok-letters.ensures, c.in_ok-letter.ensures.cases, c.if-letter-eq117.true) in
    weaken c.take_unicode.result _ _ _ _ c.take_unicode.ensures (λ none letters _. rw e none) (λ x h. rw e h)

pub returns : goal.returns
returns c = escape_found c.args.text.now c.in_ok-letters.letters.now c.in_ok-letter.rest.now c.in_ok-letter.letter c.in_ok-meaning.meaning
    c.in_ok-letters.ensures c.in_ok-letter.ensures.cases (sym c.in_ok-meaning.ensures.value) c.in_ok-meaning.ensures.ascii
