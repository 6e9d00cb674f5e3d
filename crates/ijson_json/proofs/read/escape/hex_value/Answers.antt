use Rattle.std.proofs.Common.{◌≡◌, ℕ, ◌<◌, ◌≤◌, true, eqb, get_or, refl, arith}
use Rattle.std.proofs.lemmas.Bool.{agree_below_at, eqb-true}
use Rattle.std.proofs.lemmas.Bool.Decides.{nat_tests}
use Rattle.ijson_json.specs.Strings.{hex_digit}
use Rattle.ijson_json.specs.declared.read.escape.TheConstants.{DIGITS}
use Rattle.ijson_json.specs.private.StringReading.{hex_code}
use Rattle.ijson_json.proofs.read.escape.hex_value.Goals as goal

in_table : (b : ℕ) → b < 256 → get_or DIGITS b 0 ≡ hex_code (hex_digit b)
unfolding hex_digit
in_table b h = eqb-true _ _ (agree_below_at (λ k. eqb (get_or DIGITS k 0) (hex_code (hex_digit k))) (λ k. true) 256 b refl h)

within : (b : ℕ) → hex_code (hex_digit b) ≤ 65536
unfolding hex_digit
within b = grind (arith, nat_tests)

pub returns-clause-value : goal.returns-clause-value
returns-clause-value c = in_table c.args.byte (omega arith)

pub returns-clause-small : goal.returns-clause-small
returns-clause-small c = rw (in_table c.args.byte (omega arith)) (within c.args.byte)
