use Rattle.ijson_number.proofs.Common.{◌≡◌, ◌<◌, ◌++◌, List, ℕ, All, HasWritten, IsPlainFormatter, chunks_rest, chunks_size, digits_text}
use Rattle.ijson_number.proofs.write_display.DigitsTextDisplay.fmt.Given as goal

-- Loop invariant: the digits written so far, followed by the remaining digits, are all digits.
abbrev pub invariant-loop-run : goal.invariant-loop-run
invariant-loop-run g l =
    (goal.iterator-loop-run g).can_next l.run-iterator
    × (goal.iterator-loop-run g).is_finite l.run-iterator
    × (chunks_size l.run-iterator ≡ 20)
    × All (λ d. d < 10) (chunks_rest l.run-iterator)
    × ((done : List ℕ) × (done ++ digits_text (chunks_rest l.run-iterator) ≡ digits_text l.self.digits.now)
    × (IsPlainFormatter l.initial.f → HasWritten g.W.Write.write_str_gives l.initial.f done l.f))
