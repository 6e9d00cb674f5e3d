-- The digits stored in a `ShortDigits`, most significant first.
use Rattle.std.specs.Prelude.{ℕ, List}
use Rattle.ijson_number.specs.declared.repr.stored.ShortDigits.{ShortDigits}
use Rattle.ijson_number.specs.private.StoredNumber.{buffer_digits}

abbrev pub short_digits : ShortDigits → List ℕ
short_digits d = buffer_digits d.count d.buffer
