use Rattle.std.proofs.Common.{ℕ, ◌∷◌, sym, subst, rules}
use Rattle.std.specs.Char.{encode_utf8}
use Rattle.ijson_json.specs.private.StringReading.{CharacterAt, NoCharacter, NoLow, LowAt}
use Rattle.ijson_json.proofs.reading.Escapes.{no_unicode, no_low, no_alone, found_alone, found_both, scalar_not_low, not_scalar_low}
use Rattle.ijson_json.proofs.scanning.Options.{weaken}
use Rattle.ijson_json.proofs.read.escape.take_unicode.Goals as goal

pub returns-in_err-unit : goal.returns-in_err-unit
returns-in_err-unit c = rw c.from_residual.ensures (no_unicode c.args.text.now c.in_err-unit.ensures.found)

pub returns-then-is_high_surrogate : goal.returns-then-is_high_surrogate
returns-then-is_high_surrogate c =
    let found = weaken c.take_low.result (NoLow c.in_ok-unit.rest.now) (NoCharacter (92 ∷ 117 ∷ c.args.text.now))
    (λ x. LowAt c.in_ok-unit.unit c.in_ok-unit.rest.now (encode_utf8 x.0) x.1.now)
    (λ x. CharacterAt (92 ∷ 117 ∷ c.args.text.now) (encode_utf8 x.0) x.1.now) c.take_low.ensures
    (no_low c.args.text.now c.in_ok-unit.unit c.in_ok-unit.rest.now c.in_ok-unit.ensures.found (sym c.if-is_high_surrogate.ensures))
    (λ x h. found_both c.args.text.now c.in_ok-unit.unit c.in_ok-unit.rest.now (encode_utf8 x.0) x.1.now c.in_ok-unit.ensures.found
    (sym c.if-is_high_surrogate.ensures) h) in
    search (rules, found)

pub returns-in_err-character : goal.returns-in_err-character
returns-in_err-character c = rw c.from_residual-in_err-character.ensures
    (no_alone c.args.text.now c.in_ok-unit.unit c.in_ok-unit.rest.now c.in_ok-unit.ensures.found (sym c.if-is_high_surrogate.ensures)
    (not_scalar_low c.in_ok-unit.unit c.in_err-character.ensures.cases c.in_ok-unit.ensures.small (sym c.if-is_high_surrogate.ensures)))

pub returns : goal.returns
returns c =
    subst (λ (s : ℕ). CharacterAt (92 ∷ 117 ∷ c.args.text.now) (encode_utf8 s) c.in_ok-unit.rest.now)
    (sym c.in_ok-character.ensures.value.1)
    (found_alone c.args.text.now c.in_ok-unit.unit c.in_ok-unit.rest.now c.in_ok-unit.ensures.found (sym c.if-is_high_surrogate.ensures)
    (scalar_not_low c.in_ok-unit.unit c.in_ok-character.ensures.cases))
