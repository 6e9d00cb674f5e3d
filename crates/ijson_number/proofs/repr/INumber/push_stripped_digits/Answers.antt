use Rattle.ijson_number.proofs.Common.{◌∙◌, ap, sym, rules, Num, form_number, long_form, short_form, stored_decimal}
use Rattle.ijson_number.specs.declared.repr.stored.LongNumber.{LongNumber}
use Rattle.ijson_number.specs.declared.repr.stored.ShortNumber.{ShortNumber}
use Rattle.ijson_number.proofs.comparing.NumberOrder.{row_digits}
use Rattle.ijson_number.proofs.repr.INumber.push_stripped_digits.Goals as goal

pub returns-in-Short : goal.returns-in-Short
returns-in-Short c =
    let n = c.stripped.result in
    let view = c.stripped.ensures.number ∙ ap (λ (x : ShortNumber). form_number (short_form x)) c.deref.ensures
    ∙ sym (ap stored_decimal c.in-Short.is) ∙ ap (λ (x : Num). x.decimal) c.self.view_is in
    rw (← row_digits n _ view)
    (record { digits = c.push_row.ensures.written; exponent = search rules; refused = c.push_row.ensures.refused })

pub returns-in-Long : goal.returns-in-Long
returns-in-Long c =
    let n = c.stripped-in-Long.result in
    let view = c.stripped-in-Long.ensures ∙ ap (λ (x : LongNumber). form_number (long_form x)) c.deref-in-Long.ensures
    ∙ sym (ap stored_decimal c.in-Long.is) ∙ ap (λ (x : Num). x.decimal) c.self.view_is in
    rw (← row_digits n _ view)
    (record { digits = c.push_runs.ensures.written; exponent = search rules; refused = c.push_runs.ensures.refused })
