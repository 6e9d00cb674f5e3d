use Rattle.ijson_number.proofs.Common.{◌≡◌, ◌++◌, Bool, true, false, arith, rules, to_z-of_z, has_written_of_eq, w32, to_z, of_z, minus_text}
use Rattle.ijson_number.proofs.Common.{num_text, shape_text}
use Rattle.ijson_number.proofs.writing.Writing.{shown_text}
use Rattle.ijson_number.proofs.write_display.INumberDisplay.fmt.Goals.{Else-is_empty}
use Rattle.ijson_number.proofs.write_display.INumberDisplay.fmt.Goals as goal

-- The sign and the shape that `fmt` writes are the text of the number.
shown : (g : _) (c : Else-is_empty g) (minus : Bool) → c.stripped-number.result.negative ≡ minus → let n = c.stripped-number.result in
    minus_text minus ++ shape_text n.point n.digits.now (to_z w32 (of_z w32 n.exponent)) ≡ num_text c.args.self.now.decimal
shown g c minus branch =
    let n = c.stripped-number.result in
    shown_text n _ minus _ c.stripped-number.ensures (to_z-of_z w32 n.exponent (search rules)) (grind arith) branch

pub returns-then-number-2-clause-writes : goal.returns-then-number-2-clause-writes
returns-then-number-2-clause-writes g c = λ p ok.
    has_written_of_eq _ _ _ _ _ (shown g (goal.at.returns-then-number-2-clause-writes g c).Else-is_empty true c.if-number-2.true)
    (c.write.ensures.writes p ok)

pub returns-else-number-2-clause-writes : goal.returns-else-number-2-clause-writes
returns-else-number-2-clause-writes g c = λ p ok.
    has_written_of_eq _ _ _ _ _ (shown g (goal.at.returns-else-number-2-clause-writes g c).Else-is_empty false c.if-number-2.false)
    (c.fmt.ensures.writes p ok)
