use Rattle.ijson_number.proofs.Common.{◌≡◌, ◌∙◌, ◌+◌, List, ℕ, length, ap, refl, sym, EndsToken}
use Rattle.std.proofs.lemmas.Option.{IfSome_then}
use Rattle.ijson_number.proofs.AnyAnswer.{none_with}
use Rattle.ijson_number.proofs.parsing.CommonFronts.{ends_at_once}
use Rattle.ijson_number.proofs.parsing.FrontNumbers.{front_alone, whole_length}
use Rattle.ijson_number.proofs.fast_reader.read_common.Goals as goal

pub returns-then-continues_token-clause-common : goal.returns-then-continues_token-clause-common
returns-then-continues_token-clause-common c =
    let read = c.in_ok-front in
    IfSome_then c.with_exponent.result c.with_exponent.ensures.rest
    (λ f s p rest is. s rest (rw (read.ensures.rest p rest is) is.tail)
    ∙ sym (whole_length c.args.text.now read.front read.rest.now read.ensures.found))

pub returns-then-continues_token-clause-none : goal.returns-then-continues_token-clause-none
returns-then-continues_token-clause-none c =
    none_with c.with_exponent.result c.with_exponent.ensures.none
    (λ none p rest is. none rest (rw (c.in_ok-front.ensures.rest p rest is) is.tail))

pub returns-then-continues_token-clause-found : goal.returns-then-continues_token-clause-found
returns-then-continues_token-clause-found c =
    IfSome_then c.with_exponent.result c.with_exponent.ensures.front (λ f s. s c.args.text.now c.in_ok-front.ensures.found)

pub returns-clause-found : goal.returns-clause-found
returns-clause-found c =
    let read = c.in_ok-front in
    front_alone c.args.text.now read.rest.now read.front read.ensures.found (c.continues_token.ensures.ends (rw c.if-continues_token.false refl))

pub returns-clause-common : goal.returns-clause-common
returns-clause-common c = λ p rest is.
    let read = c.in_ok-front in
    let ends : EndsToken read.rest.now = c.continues_token.ensures.ends (rw c.if-continues_token.false refl) in
    let same : read.rest.now ≡ rest = read.ensures.rest p rest is ∙ ends_at_once is.after rest is.tail (rw (← read.ensures.rest p rest is) ends) in
    ap (λ (r : List ℕ). read.front.length + length r) (sym same) ∙ sym (whole_length c.args.text.now read.front read.rest.now read.ensures.found)
