use Rattle.ijson_number.proofs.Common.{◌∷◌, ◌++◌, append_assoc, string_bytes, digits_text, minus_text, zeros_text}
use Rattle.ijson_number.proofs.writing.Beginnings.{failed, last_begun, none_begun}
use Rattle.ijson_number.proofs.repr.stored.StrippedNumber.push_fraction.Goals as goal

pub returns-in_err-push_leading_zeros : goal.returns-in_err-push_leading_zeros
returns-in_err-push_leading_zeros c = failed _ _ _ _ c.from_residual.ensures.0 (none_begun _ _ _ c.in_err-push_leading_zeros.ensures.refused)

pub returns-in_err-push_row : goal.returns-in_err-push_row
returns-in_err-push_row c =
    let n = c.args.self.now in
    let minus = minus_text n.negative in
    let front = 48 ∷ 46 ∷ zeros_text c.args.zeros in
    failed _ _ _ _ c.from_residual-in_err-push_row.ensures.0 (last_begun (string_bytes c.args.out.now) (string_bytes c.push_leading_zeros.new.out) _
    (minus ++ front) (digits_text n.digits.now) _ c.in_ok-push_leading_zeros.ensures.written c.in_err-push_row.ensures.refused
    (append_assoc minus front (digits_text n.digits.now)))
