-- The delimiter that the reader finds after an element or a member.
use Rattle.std.specs.Prelude.{◌≡◌, ℕ, List, length}
use Rattle.ijson_json.specs.private.Reading.{Closes, GoesOn, IsStuck}
use Rattle.ijson_json.specs.declared.fault.Fault.{Fault}
use Rattle.ijson_json.specs.declared.fault.Fault.TheVariants as faults
use Rattle.ijson_json.specs.declared.read.delimiter.Delimiter.{Delimiter}
use Rattle.ijson_json.specs.declared.read.delimiter.Delimiter.TheVariants.{Comma, End}

-- Holds if `text`, after white space, begins with a comma or the closing bracket `closing`. The
-- text after the delimiter is `next` or `behind`.
abbrev pub DelimiterAt : ℕ → List ℕ → Delimiter → Type 0
DelimiterAt closing text (Comma next) = GoesOn text next.now
DelimiterAt closing text (End behind) = Closes closing text behind.now

-- Holds if `text`, after white space, does not begin with a comma or `closing`, and `fault` is a
-- syntax error there.
abbrev pub NoDelimiter : ℕ → List ℕ → Fault → Type 0
NoDelimiter closing text fault =
    (left : List ℕ) × IsStuck closing text left × (fault ≡ faults.Syntax (length left))
