-- The text before the value of a member (RFC 8259, section 4): a comma, except before the first
-- member, then the key and a colon.
use Rattle.std.specs.Prelude.{ℕ, Bool, List, [], ◌∷◌, ◌++◌}
use Rattle.ijson_json.specs.Print.{quoted}
use Rattle.ijson_json.specs.Separator.{separator}

-- e.g. of `{"a":1,"b":2}` that is `"a":` and `,"b":`.
abbrev pub key_text : Bool → List ℕ → List ℕ
key_text is_first key = separator is_first ++ (quoted key ++ 58 ∷ [])
