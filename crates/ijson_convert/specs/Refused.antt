-- For each Rust type, the error with which a tree is rejected.
--
-- A tree of another kind is rejected with `WrongKind`, and a number that is not an integer in range
-- with `OutOfRange`. A list or map is rejected with the error of its first rejected part.
use Rattle.std.specs.Prelude.{◌≡◌, ◌⊎◌, ◌<◌, ℕ, ℤ, pos, FitsSigned}
use Rattle.std.specs.Int.{Width}
use Rattle.ijson_number.specs.Integers.{HasValue}
use Rattle.ijson_value.specs.Tree.{Tree, null, boolean, number, string, array, object, Items, no_items, item, Members, no_members, member}
use Rattle.ijson_convert.specs.IsRead.{IsRead}
use Rattle.ijson_convert.specs.declared.convert_error.ConvertError.{ConvertError}
use Rattle.ijson_convert.specs.declared.convert_error.ConvertError.TheVariants.{WrongKind, OutOfRange}

abbrev pub BoolRefused : Tree → ConvertError → Type 0
BoolRefused (boolean b) e = ⊥
BoolRefused _ e = e ≡ WrongKind

abbrev pub TextRefused : Tree → ConvertError → Type 0
TextRefused (string s) e = ⊥
TextRefused _ e = e ≡ WrongKind

-- Holds if reading a signed integer of width `width` from the tree fails with error `e`.
abbrev pub SignedRefused : Width → Tree → ConvertError → Type 0
SignedRefused width (number n) e =
    (e ≡ OutOfRange) × ((z : ℤ) → FitsSigned width z → HasValue n z → ⊥)
SignedRefused width _ e = e ≡ WrongKind

-- Holds if reading an unsigned integer below `limit` from the tree fails with error `e`.
abbrev pub UnsignedRefused : ℕ → Tree → ConvertError → Type 0
UnsignedRefused limit (number n) e =
    (e ≡ OutOfRange) × ((m : ℕ) → m < limit → HasValue n (pos m) → ⊥)
UnsignedRefused limit _ e = e ≡ WrongKind

-- e.g. 2.5 as an `i32` is `OutOfRange`, 256 as a `u8` too, and `"x"` is `WrongKind`; null as an
-- `Option` is read.
abbrev pub OptionRefused : (Tree → ConvertError → Type 0) → Tree → ConvertError → Type 0
OptionRefused Refused null e = ⊥
OptionRefused Refused t e = Refused t e

-- Holds if an element is rejected with error `e`, and all elements before it are accepted.
abbrev pub FirstRefused : (Tree → ConvertError → Type 0) → Items → ConvertError → Type 0
FirstRefused Refused no_items e = ⊥
FirstRefused Refused (item t more) e =
    Refused t e ⊎ (IsRead Refused t × FirstRefused Refused more e)

-- e.g. `[1,2.5,"x"]` as `i32`s is `OutOfRange`; `{}` is `WrongKind`.
abbrev pub ListRefused : (Tree → ConvertError → Type 0) → Tree → ConvertError → Type 0
ListRefused Refused (array items) e = FirstRefused Refused items e
ListRefused Refused _ e = e ≡ WrongKind

-- The values of the members, as elements in the same order.
abbrev pub member_values : Members → Items
member_values no_members = no_items
member_values (member k t more) = item t (member_values more)

-- e.g. `{"a":1,"b":"x"}` as a map of `i32`s is `WrongKind`, and so is `[]`.
abbrev pub MapRefused : (Tree → ConvertError → Type 0) → Tree → ConvertError → Type 0
MapRefused Refused (object members) e = FirstRefused Refused (member_values members) e
MapRefused Refused _ e = e ≡ WrongKind
