use Rattle.std.proofs.Common.{◌∷◌, List, ℕ, length}
use Rattle.std.specs.Prelude.{◌≢◌}
use denote.Text.{Utf8}
use denote.Shadow.{shadow}
use Rattle.std.specs.String.{string_bytes}
use Rattle.ijson_json.specs.Strings.{is_unescaped}
use Rattle.ijson_json.specs.private.Reading.{Past}
use Rattle.ijson_json.proofs.reading.StringContent.{Appended}
use Rattle.ijson_json.proofs.read.string.push_content.Given as goal

-- The content before `left` was appended, and `left` begins with neither an unescaped byte nor a
-- quote.
abbrev pub invariant-loop-character : goal.invariant-loop-character
invariant-loop-character l = record {
  utf8 : shadow (Utf8 l.left);
  read : Appended l.fn.text l.left (string_bytes l.fn.content) (string_bytes l.content);
  escape : Past is_unescaped l.left;
  unclosed : (behind : List ℕ) → l.left ≢ 34 ∷ behind;
}

abbrev pub decreases-loop-character : goal.decreases-loop-character
decreases-loop-character l = length l.left
