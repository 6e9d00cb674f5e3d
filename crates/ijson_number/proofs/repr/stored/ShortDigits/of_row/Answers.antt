use Rattle.ijson_number.proofs.Common.{◌≡◌, ◌∙◌, suc, ◌-◌, ap, drop, length, arith, rules, append-nil}
use Rattle.ijson_number.proofs.storing.BlockDigits.{row_digits}
use Rattle.ijson_number.proofs.repr.stored.ShortDigits.of_row.Goals as goal

pub returns : goal.returns
returns c =
    let zeros = c.zeros_in_front.result in
    let few = c.zeros_in_front.ensures.few in
    let long : length c.lanes_of-lanes.result ≡ 16 = search rules in
    let at : 19 - (16 - zeros) ≡ suc (suc (suc zeros)) = omega arith in
    rw at (ap (drop zeros) (append-nil _ ∙ c.copy_from_slice.ensures.after)
    ∙ row_digits c.args.number zeros c.lanes_of-lanes.result c.requires.some c.requires.row long c.lanes_of-lanes.ensures
    c.zeros_in_front.ensures)
