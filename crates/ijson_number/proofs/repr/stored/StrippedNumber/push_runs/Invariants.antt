use Rattle.ijson_number.proofs.Common.{◌≡◌, ◌<◌, ◌++◌, List, ℕ, All, string_bytes, chunks_rest, chunks_size, digits_text}
use Rattle.ijson_number.proofs.repr.stored.StrippedNumber.push_runs.Given as goal

-- Loop invariant: the digits written so far, followed by the remaining digits, are all digits of
-- the number.
abbrev pub invariant-loop-run : goal.invariant-loop-run
invariant-loop-run l =
    goal.iterator-loop-run.can_next l.run-iterator
    × goal.iterator-loop-run.is_finite l.run-iterator
    × (chunks_size l.run-iterator ≡ 20)
    × All (λ d. d < 10) (chunks_rest l.run-iterator)
    × ((done : List ℕ) × (done ++ digits_text (chunks_rest l.run-iterator) ≡ digits_text l.self.digits.now)
    × (string_bytes l.out ≡ string_bytes l.initial.out ++ done))
