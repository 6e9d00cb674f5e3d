use Rattle.ijson_number.proofs.Common.{◌≡◌, ◌^◌, ◌<◌, ◌∙◌, false, true, length, inl, inr, ap, sym, rules, arith, nat_abs, FitsSigned, to_z-of_z, w64}
use Rattle.ijson_number.proofs.Common.{Decimal, form_of, is_digits, form_number, Num, stored_number, stripped_digits, num_text, short_form}
use Rattle.ijson_number.proofs.Common.{stored_decimal, stored_form, decimal_of, integer_text}
use Rattle.ijson_number.specs.declared.repr.stored.ShortNumber.{ShortNumber}
use Rattle.ijson_number.specs.private.RowText.{IsRowText, IsShortInRows}
use Rattle.ijson_number.specs.private.ShortDigits.{short_digits}
use Rattle.ijson_number.proofs.comparing.NumberOrder.{row_digits}
use Rattle.ijson_number.proofs.writing.DigitTexts.{stored_digits_are}
use Rattle.ijson_number.proofs.writing.WordTexts.{integer_shown, packed_integer, unsigned_shown}
use Rattle.ijson_number.proofs.repr.INumber.push_fast.Goals.{After-push_integer, in-I64, in-Packed+else-point, in-U64}
use Rattle.ijson_number.proofs.repr.INumber.push_fast.Goals as goal

pub push_pointed-requires-clause-small : goal.push_pointed-requires-clause-small
push_pointed-requires-clause-small c = let m = c.mantissa-mantissa in rw (to_z-of_z w64 m.result (search rules)) m.ensures.small

pub push_digits-requires-clause-lanes : goal.push_digits-requires-clause-lanes
push_digits-requires-clause-lanes c =
    let n = c.stripped.result in
    let digits : n.digits.now ≡ short_digits c.deref-in-Short.result.now.digits = c.stripped.ensures.digits
    ∙ ap (λ (x : ShortNumber). short_digits x.digits) (c.deref.ensures ∙ sym c.deref-in-Short.ensures) in
    rw digits (c.lanes.ensures.lanes (rw (← digits) n.stripped.stripped.below_ten))

-- The text that `push_integer` appends is the text of the number, however the integer is stored.
shown : (c : After-push_integer) → integer_text c.match-self.negative.0 c.match-self.negative.1 ≡ num_text c.args.self.now.decimal
shown c =
    let view = sym (ap (λ (x : Num). x.decimal) c.self.view_is) in
    elim c.match-self.branch [
      | in-Packed+else-point w ↦ (
          let m = w.mantissa-mantissa in
          let fits : FitsSigned w64 m.result = search rules in
          let exact = to_z-of_z w64 m.result fits ∙ m.ensures.value in
          let n = w.unsigned_abs in
          rw w.negative-is (integer_shown c.args.self.now.decimal _ _ n.result
          (view ∙ ap stored_decimal w.in-Packed.is ∙ packed_integer w.in-Packed.word.bits (sym w.point.ensures ∙ w.if-point.false)) exact
          (n.ensures.value ∙ ap nat_abs exact) n.type_inv)
          )
      | in-I64 w ↦ (
          let v = w.in-I64.value in
          let fits : FitsSigned w64 v = search rules in
          let exact = to_z-of_z w64 v fits in
          let n = w.unsigned_abs-in-I64 in
          rw w.negative-is (integer_shown c.args.self.now.decimal v _ n.result (view ∙ ap stored_decimal w.in-I64.is) exact
          (n.ensures.value ∙ ap nat_abs exact) n.type_inv)
          )
      | in-U64 w ↦ (
          let word : w.in-U64.value < 2 ^ 64 = search rules in
          rw w.negative-is (unsigned_shown c.args.self.now.decimal w.in-U64.value (view ∙ ap stored_decimal w.in-U64.is) word)
          )
    ]

pub returns-clause-pushed : goal.returns-clause-pushed
returns-clause-pushed c = rw (shown (goal.at.returns-clause-pushed c).After-push_integer) at c.push_integer.ensures

-- If a number that is stored as a list of digits satisfies `IsRowText`, it satisfies
-- `IsShortInRows`.
by_digits : (n : Decimal) → is_digits (form_of n) ≡ true → IsRowText n → IsShortInRows n
by_digits n kept (inl integer) = absurd (let none : false ≡ true = sym integer.in_word ∙ kept in cc)
by_digits n kept (inr (inl packed)) = absurd (let none : false ≡ true = sym (ap is_digits packed.form) ∙ kept in cc)
by_digits n kept (inr (inr short)) = short

-- The digits passed to `push_digits` are the canonical digits of the number.
pub returns-in-Short-clause-rows : goal.returns-in-Short-clause-rows
returns-in-Short-clause-rows c row =
    let n = c.stripped.result in
    let is : c.args.self.now.decimal ≡ decimal_of n = sym (ap (λ (x : Num). x.decimal) c.self.view_is) ∙ ap stored_decimal c.in-Short.is
    ∙ ap (λ (x : ShortNumber). form_number (short_form x)) (sym c.deref.ensures) ∙ sym c.stripped.ensures.number in
    let kept : is_digits (form_of c.args.self.now.decimal) ≡ true = ap (λ (x : Num). is_digits (form_of x.decimal)) (sym c.self.view_is)
    ∙ ap is_digits c.self.invariant ∙ ap (λ s. is_digits (stored_form s)) c.in-Short.is in
    let short = by_digits c.args.self.now.decimal kept row in
    c.push_digits.ensures.rows (rw is at short.pointed) (rw (← row_digits n _ (sym is), is) at short.rows)

-- `IsRowText` does not hold for a `Long` number, because it has more than 19 digits or an exponent
-- that does not fit 16 bits.
pub returns-in-Long-clause-rows : goal.returns-in-Long-clause-rows
returns-in-Long-clause-rows c row =
    let n = c.in-Long.field-0.value in
    let is : c.args.self.now.decimal ≡ stored_number n.negative n.digits.items n.exponent n.point =
    sym (ap (λ (x : Num). x.decimal) c.self.view_is) ∙ ap stored_decimal c.in-Long.is in
    let kept : is_digits (form_of c.args.self.now.decimal) ≡ true = ap (λ (x : Num). is_digits (form_of x.decimal)) (sym c.self.view_is)
    ∙ ap is_digits c.self.invariant ∙ ap (λ s. is_digits (stored_form s)) c.in-Long.is in
    let short = by_digits c.args.self.now.decimal kept row in
    let same : length (stripped_digits c.args.self.now.decimal) ≡ length n.digits.items =
    rw is (ap length (stored_digits_are n.negative n.digits.items n.exponent n.point n.stripped.stripped)) in
    let many : 19 < length n.digits.items = n.many (rw is at short.small) in
    absurd (let none : ⊥ = omega (arith, many, same, short.few) in none)
