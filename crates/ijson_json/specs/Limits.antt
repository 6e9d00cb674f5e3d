-- The nesting limit. RFC 8259, section 9, lets each parser set a limit; the value is this project's
-- own.
use Rattle.std.specs.Prelude.{ℕ}

-- The maximum number of open containers.
-- e.g. 127 brackets that open and close are read, and 128 are too deep.
abbrev pub max_depth : ℕ
max_depth = 127
