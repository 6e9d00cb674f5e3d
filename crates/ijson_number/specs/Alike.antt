-- Two numbers are indistinguishable if they have the same value and the same `point`.
use Rattle.std.specs.Prelude.{◌≡◌, IsTrue}
use Rattle.ijson_number.specs.Decimal.{Decimal}
use Rattle.ijson_number.specs.Order.{number_eq}

-- e.g. `1.50` and `15e-1` are alike; `2` and `2.0` are not.
pub record IsAlike (a b : Decimal) : Type 0 where
  pub value : IsTrue (number_eq a b)
  pub shape : a.point ≡ b.point
