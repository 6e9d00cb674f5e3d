use Rattle.ijson_number.proofs.Common.{◌≡◌, ◌∙◌, ◌+◌, ◌-◌, ◌<◌, ◌++◌, length, arith, length-append, parts_of}
use Rattle.ijson_number.proofs.parsing.Exponents.{w32_within}
use Rattle.ijson_number.proofs.parsing.CanonicalSpellings.{ZerosTaken, denotes_number, denotes_nought, is_num, stores_number, past_limit}
use Rattle.ijson_number.proofs.parsing.CanonicalSpellings.{digits_front, digits_back}
use Rattle.ijson_number.proofs.general_reader.Spelling.canonical.Goals.{After-strip_back, After-canonical_exponent}
use Rattle.ijson_number.proofs.general_reader.Spelling.canonical.Goals.{else-is_empty-via-then-is_empty+else-is_empty-2}
use Rattle.ijson_number.proofs.general_reader.Spelling.canonical.Goals.{else-is_empty-via-else-is_empty}
use Rattle.ijson_number.proofs.general_reader.Spelling.canonical.Goals as goal

-- `strip_front` and `strip_back` strip all leading and trailing zeros.
taken : (c : After-strip_back) → let w = c.strip_front.result in let a = c.strip_back.result in
    ZerosTaken c.requires.spelled.0 (parts_of c.args.self.now) w.0.now w.1.now a.0.now a.1.now c.strip_front.ensures.zeros.0
    ((length w.0.now - length a.0.now) + (length w.1.now - length a.1.now))
taken c = record {
  spelled = c.requires.spelled.1;
  front = c.strip_front.ensures.zeros.1;
  back = c.strip_back.ensures.zeros;
  first = c.strip_front.ensures.first;
  last = c.strip_back.ensures.last;
}

-- If `canonical_exponent` is called, at least one digit remains after stripping.
some : (c : After-canonical_exponent) → 0 < length (c.strip_back.result.0.now ++ c.strip_back.result.1.now)
some c = rw length-append (elim c.else-is_empty.branch [
  | else-is_empty-via-then-is_empty+else-is_empty-2 w ↦ grind arith
  | else-is_empty-via-else-is_empty w ↦ grind arith
])

pub returns-then-is_empty-2-clause-denoted : goal.returns-then-is_empty-2-clause-denoted
returns-then-is_empty-2-clause-denoted c =
    let none : length (c.strip_back.result.0.now ++ c.strip_back.result.1.now) ≡ 0 = rw length-append (grind arith) in
    denotes_nought (taken (goal.at.returns-then-is_empty-2-clause-denoted c).After-strip_back) none

pub returns-in_err-exponent-clause-none : goal.returns-in_err-exponent-clause-none
returns-in_err-exponent-clause-none c =
    let before = goal.at.returns-in_err-exponent-clause-none c in
    rw c.from_residual.ensures (λ n d num. past_limit (taken before.After-strip_back) (some before.After-canonical_exponent)
    c.in_err-exponent.ensures.none n (parts_of c.args.self.now, c.requires.spelled.1, d) num)

pub returns-clause-denoted : goal.returns-clause-denoted
returns-clause-denoted c =
    let before = goal.at.returns-clause-denoted c in
    let e = c.in_ok-exponent.ensures.some in
    denotes_number (taken before.After-strip_back) (some before.After-canonical_exponent) _ (w32_within c.in_ok-exponent.exponent e.1 ∙ e.0)

pub returns-clause-canonical : goal.returns-clause-canonical
returns-clause-canonical c =
    let before = goal.at.returns-clause-canonical c in
    let all = taken before.After-strip_back in
    let left = some before.After-canonical_exponent in
    let e = c.in_ok-exponent.ensures.some in
    let same = w32_within c.in_ok-exponent.exponent e.1 in
    record {
      front = digits_front all;
      back = digits_back all;
      num = is_num all left _ (same ∙ e.0) (rw same e.1);
      stored = stores_number all left;
    }
