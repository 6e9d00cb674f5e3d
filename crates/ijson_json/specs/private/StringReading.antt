-- The results of the functions that read a string, which read at the start of a text.
use Rattle.std.specs.Prelude.{◌≡◌, ◌≢◌, ℕ, List, ◌∷◌, ◌++◌, ⊤, length, IsTrue, Option, Some, None}
use Rattle.std.specs.Char.{encode_utf8}
use Rattle.ijson_json.specs.Strings.{Hex, Character, is_low_surrogate, paired, StringBody}
use Rattle.ijson_json.specs.declared.fault.Fault.{Fault}
use Rattle.ijson_json.specs.declared.fault.Fault.TheVariants as faults

-- The value of a hexadecimal digit, or 65536 for another byte. 65536 exceeds the value of any four
-- digits.
abbrev pub hex_code : Option ℕ → ℕ
hex_code (Some d) = d
hex_code None = 65536

-- Holds if `text` is four hexadecimal digits with the value `u`, then `rest`.
abbrev pub HexAt : List ℕ → ℕ → List ℕ → Type 0
HexAt text u rest = (h : List ℕ) × Hex h u × (text ≡ h ++ rest)

abbrev pub NoHex : List ℕ → Type 0
NoHex text = (u : ℕ) (rest : List ℕ) → HexAt text u rest → ⊥

-- Holds if `text` is a character with the UTF-8 bytes `meant`, then `rest`.
abbrev pub CharacterAt : List ℕ → List ℕ → List ℕ → Type 0
CharacterAt text meant rest =
    (written : List ℕ) × Character written meant × (text ≡ written ++ rest)

abbrev pub NoCharacter : List ℕ → Type 0
NoCharacter text = (meant rest : List ℕ) → CharacterAt text meant rest → ⊥

-- Holds if `text` does not begin with a valid escape.
abbrev pub NoEscape : List ℕ → Type 0
NoEscape text = (letters : List ℕ) → text ≡ 92 ∷ letters → NoCharacter text

-- Holds if `text` is the escape of a low surrogate, then `rest`. `meant` is the UTF-8 encoding of
-- the pair of the high surrogate `u` and this low surrogate.
abbrev pub LowAt : ℕ → List ℕ → List ℕ → List ℕ → Type 0
LowAt u text meant rest =
    (l : List ℕ) × (v : ℕ) × Hex l v × IsTrue (is_low_surrogate v)
    × (text ≡ 92 ∷ 117 ∷ (l ++ rest)) × (meant ≡ encode_utf8 (paired u v))

abbrev pub NoLow : List ℕ → Type 0
NoLow text =
    (l : List ℕ) (v : ℕ) (rest : List ℕ) → Hex l v → IsTrue (is_low_surrogate v)
    → text ≡ 92 ∷ 117 ∷ (l ++ rest) → ⊥

-- Holds if `text` is the rest of a string's body with the content `s`, the closing quote, then
-- `rest`.
abbrev pub ContentAt : List ℕ → List ℕ → List ℕ → Type 0
ContentAt text s rest = (body : List ℕ) × StringBody body s × (text ≡ body ++ 34 ∷ rest)

-- Holds if `text` is complete characters, then `left` bytes that begin with neither a character nor
-- the closing quote.
pub record ContentStops (text : List ℕ) (left : ℕ) : Type 0 where
  pub body : List ℕ
  pub meant : List ℕ
  pub rest : List ℕ
  pub is_body : StringBody body meant
  pub is : text ≡ body ++ rest
  pub left_is : left ≡ length rest
  pub unclosed : (behind : List ℕ) → rest ≢ 34 ∷ behind
  pub no_character : NoCharacter rest

-- Holds if reading the content of a string at the start of `text` may fail with the fault.
abbrev pub ContentFault : List ℕ → Fault → Type 0
ContentFault text (faults.Syntax left) = ContentStops text left
ContentFault text (faults.TooDeep left) = ⊥
ContentFault text (faults.NumberRange left) = ⊥
ContentFault text faults.Memory = ⊤
