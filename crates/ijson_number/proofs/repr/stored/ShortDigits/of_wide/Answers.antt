use Rattle.ijson_number.proofs.Common.{◌≡◌, ◌∙◌, ◌/◌, ◌%◌, ◌^◌, ◌+◌, ◌-◌, ◌++◌, ◌∷◌, List, ℕ, ap, drop, sym, arith, append-nil, digits_of}
use Rattle.ijson_number.proofs.storing.BlockDigits.{front_digits, row_values, wide_digits}
use Rattle.ijson_number.proofs.repr.stored.ShortDigits.of_wide.Goals as goal

pub returns : goal.returns
returns c =
    let n = c.args.number in
    let front : ℕ = n / 10 ^ 16 in
    let count : ℕ = 1 + c.from.result + c.from-2.result in
    let row : List ℕ = c.copy_from_slice.new.self in
    let at : 19 - (17 + c.from.result + c.from-2.result) ≡ 3 - count = omega arith in
    rw at (ap (λ l. drop (3 - count) (front / 100 ∷ front / 10 % 10 ∷ front % 10 ∷ l)) (append-nil row)
    ∙ front_digits front count row (omega arith) (omega arith) (omega arith)
    ∙ ap (λ l. digits_of 10 front ++ l) (c.copy_from_slice.ensures.after ∙ row_values (n % 10 ^ 16) c.lanes_of.result c.lanes_of.ensures)
    ∙ sym (wide_digits n c.requires.wide c.ranges.number.fits))
