use Rattle.std.proofs.Common.{◌∙◌, refl, sym, ap, List, ℕ}
use Rattle.std.specs.Prelude.{option_and_then}
use Rattle.ijson_table.specs.Store.{lookup}
use Rattle.ijson_value.specs.WellFormed.{WellFormed}
use Rattle.ijson_extra.proofs.tokens.NamedParts.{member_found, member_missing, member_put, place_found, place_put}
use Rattle.ijson_extra.proofs.pointer.lend.member_mut.Goals as goal

pub returns-then-not-has_escape : goal.returns-then-not-has_escape
returns-then-not-has_escape c =
    let o = c.args.object.now in let token = c.args.token.now in let itself = c.if-not-has_escape.ensures.itself refl in
    let lent = member_found o.pairs token c.get_mut.result (c.get_mut.ensures.value
    ∙ ap (option_and_then (λ key. lookup key o.pairs)) (sym itself)) in (
      (refl, (λ w. member_put o token token c.get_mut.result w itself lent), refl),
      lent,
    )

pub returns-in-Some : goal.returns-in-Some
returns-in-Some c =
    let o = c.args.object.now in let token = c.args.token.now in let i = c.in-Some.position in
    let named = c.in-Some.ensures.position in let lent = c.value_at_mut.ensures.value in
    let pair : List ℕ × WellFormed = (token, c.in-Some.field-0-1.now) in (
      (refl, place_put o token i c.value_at_mut.result named lent pair, refl),
      place_found o token i c.value_at_mut.result named lent pair,
    )

pub returns-in-None : goal.returns-in-None
returns-in-None c = (
  (refl, (λ w. tt), refl),
  member_missing c.args.object.now.pairs c.args.token.now c.in-None.ensures.value,
)
