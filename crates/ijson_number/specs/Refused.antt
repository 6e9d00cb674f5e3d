-- The errors of parsing a number.
use Rattle.std.specs.Prelude.{◌≡◌, ℕ, List, true}
use Rattle.ijson_number.specs.Decimal.{Decimal}
use Rattle.ijson_number.specs.Num.{IsNum}
use Rattle.ijson_number.specs.Form.{is_digits, form_of}
use Rattle.ijson_number.specs.Grammar.{Spells}
use Rattle.ijson_number.specs.declared.number.ParseNumberError.{ParseNumberError}
use Rattle.ijson_number.specs.declared.number.ParseNumberError.TheVariants.{Invalid, Memory}

-- Holds if parsing `text` fails with this error. `Invalid`: `text` does not spell a number within
-- the limits. `Memory`: `text` spells a number that is stored as a list of digits, so an allocation
-- can fail.
-- e.g. `01` and `1e-1073741825` are `Invalid`; `18446744073709551616` can be `Memory`.
abbrev pub IsRefused : List ℕ → ParseNumberError → Type 0
IsRefused text Invalid = (n : Decimal) → Spells text n → IsNum n → ⊥
IsRefused text Memory = (n : Decimal) × Spells text n × IsNum n × (is_digits (form_of n) ≡ true)
