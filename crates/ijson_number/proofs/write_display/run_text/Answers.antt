use Rattle.ijson_number.proofs.Common.{◌≡◌, ◌∙◌, ap, sym, take, length, arith, take_all, IsUtf8-from_ascii, digits_text}
use Rattle.ijson_number.proofs.writing.WrittenLanes.{digits_text_ascii}
use Rattle.ijson_number.proofs.write_display.run_text.Goals as goal

pub from_utf8_unchecked-requires : goal.from_utf8_unchecked-requires
from_utf8_unchecked-requires c =
    let digits = c.args.digits.now in
    let test = c.loop-at-test.false in
    let end = c.loop-at.auto.at-end in
    let last : c.loop-at.at ≡ length digits = omega arith in
    let text : take (length digits) c.loop-at.buffer ≡ digits_text digits = ap (λ n. take n c.loop-at.buffer) (sym last)
    ∙ c.loop-at.invariant ∙ ap digits_text (take_all c.loop-at.at digits (omega arith)) in
    IsUtf8-from_ascii _ (rw text (digits_text_ascii digits c.requires.below_ten))
