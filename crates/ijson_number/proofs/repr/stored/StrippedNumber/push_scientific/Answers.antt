use Rattle.ijson_number.proofs.Common.{◌≡◌, ◌∙◌, ◌++◌, ◌∷◌, [], ap, refl, append_assoc, string_bytes, arith, rules, ℤ, FitsSigned, pos, ◌-ℤ◌, int_lt}
use Rattle.ijson_number.proofs.Common.{nat_abs, ints, to_z-of_z, w32, w128, of_z, to_z, num_text, decimal_of, integer_text}
use Rattle.ijson_number.specs.private.SplitText.{split_text}
use Rattle.ijson_number.proofs.writing.Beginnings.{both, failed, front_begun, last_append, some_begun}
use Rattle.ijson_number.proofs.writing.WordTexts.{scientific_shown}
use Rattle.ijson_number.proofs.repr.stored.StrippedNumber.push_scientific.Goals.{After-push_split}
use Rattle.ijson_number.proofs.repr.stored.StrippedNumber.push_scientific.Goals as goal

-- The digits with the point after the first digit, followed by `e` and the exponent, are the text
-- of the number.
shown : (c : After-push_split) (power : ℤ) → power ≡ c.args.place -ℤ pos 1
    → split_text c.args.self.now.negative c.args.self.now.digits.now 1 ++ 101 ∷ integer_text (int_lt power (pos 0)) (nat_abs power)
    ≡ num_text (decimal_of c.args.self.now)
shown c power is =
    let n = c.args.self.now in
    let fits : FitsSigned w32 n.exponent = search rules in
    scientific_shown n c.args.place power c.requires.point c.requires.some c.requires.place (omega (arith, ints)) (omega (arith, ints))
    c.requires.exponent is

pub returns-in_err-push_split : goal.returns-in_err-push_split
returns-in_err-push_split c =
    failed _ _ _ _ c.from_residual.ensures.0 (front_begun (string_bytes c.args.out.now) (string_bytes c.push_split.new.out) _ _ _
    c.in_err-push_split.ensures (shown (goal.at.returns-in_err-push_split c).After-push_split (c.args.place -ℤ pos 1) refl))

pub returns-in_err-push : goal.returns-in_err-push
returns-in_err-push c =
    failed _ _ _ _ c.from_residual-in_err-push.ensures.0 (some_begun (string_bytes c.args.out.now) (string_bytes c.push.new.self) _ _ _
    (c.in_err-push.ensures.bytes ∙ c.in_ok-push_split.ensures)
    (shown (goal.at.returns-in_err-push c).After-push_split (c.args.place -ℤ pos 1) refl))

pub returns : goal.returns
unfolding lib.Utf8.encode
returns c =
    let old = string_bytes c.args.out.now in
    let front = split_text c.args.self.now.negative c.args.self.now.digits.now 1 in
    let place = c.args.place in
    let less : ℤ = to_z w128 (of_z w128 place) -ℤ pos 1 in
    let power : ℤ = to_z w128 (of_z w128 less) in
    let exact : power ≡ place -ℤ pos 1 = to_z-of_z w128 less (search rules) ∙ ap (λ p. p -ℤ pos 1) (to_z-of_z w128 place (search rules)) in
    let exponent = integer_text (int_lt power (pos 0)) c.unsigned_abs.result in
    last_append _ old (string_bytes c.push.new.self) (string_bytes c.push_integer.new.out) (front ++ 101 ∷ []) exponent _
    (both old (string_bytes c.push_split.new.out) _ front (101 ∷ []) c.in_ok-push_split.ensures c.in_ok-push.ensures.bytes)
    c.push_integer.ensures
    (append_assoc front (101 ∷ []) exponent ∙ rw c.unsigned_abs.ensures.value (shown (goal.at.returns c).After-push_split power exact))
