-- The body of a string, between its quotes, and the UTF-8 bytes that the body spells (RFC 8259,
-- section 7). A surrogate must be part of a pair, which is this project's own rule.
use Rattle.std.specs.Prelude.{◌≡◌, ℕ, ◌+◌, ◌-◌, ◌*◌, Bool, false, cond, not, ◌&&◌, ◌||◌, ◌==◌, nat_le, nat_lt, IsTrue, List, [], ◌∷◌}
use Rattle.std.specs.Prelude.{◌++◌, Option, Some, None}
use Rattle.std.specs.Char.{encode_utf8}

-- Returns `true` if a byte can be unescaped in a string: it is not a control character, `"` or a
-- backslash. This includes each byte of a multi-byte UTF-8 character.
abbrev pub is_unescaped : ℕ → Bool
is_unescaped b = nat_le 32 b && (not (b == 34) && not (b == 92))

-- The byte that a backslash and the letter `b` spell. The letters are `"`, a backslash, `/`, b, f,
-- n, r and t.
unfoldable pub short_escape : ℕ → Option ℕ
short_escape b =
    cond ((b == 34) || ((b == 92) || (b == 47))) (Some b)
    (cond (b == 98) (Some 8)
    (cond (b == 102) (Some 12)
    (cond (b == 110) (Some 10)
    (cond (b == 114) (Some 13)
    (cond (b == 116) (Some 9) None)))))

-- The value of a hexadecimal digit: 0 to 9, a to f or A to F.
unfoldable pub hex_digit : ℕ → Option ℕ
hex_digit b =
    cond (nat_le 48 b && nat_le b 57) (Some (b - 48))
    (cond (nat_le 97 b && nat_le b 102) (Some (b - 87))
    (cond (nat_le 65 b && nat_le b 70) (Some (b - 55)) None))

-- Holds if `text` is four hexadecimal digits with the value `u`.
-- e.g. `a` and the byte 7f denote themselves, and 1f does not; `\n` is the byte 10; `001F` denotes
-- 31.
pub record Hex (text : List ℕ) (u : ℕ) : Type 0 where
  pub a : ℕ
  pub b : ℕ
  pub c : ℕ
  pub d : ℕ
  pub x : ℕ
  pub y : ℕ
  pub z : ℕ
  pub w : ℕ
  pub text_is : text ≡ a ∷ b ∷ c ∷ d ∷ []
  pub first : hex_digit a ≡ Some x
  pub second : hex_digit b ≡ Some y
  pub third : hex_digit c ≡ Some z
  pub fourth : hex_digit d ≡ Some w
  pub is : u ≡ x * 4096 + (y * 256 + (z * 16 + w))

abbrev pub is_high_surrogate : ℕ → Bool
is_high_surrogate u = nat_le 0xd800 u && nat_lt u 0xdc00

abbrev pub is_low_surrogate : ℕ → Bool
is_low_surrogate u = nat_le 0xdc00 u && nat_lt u 0xe000

-- The code point of the surrogate pair `u`, `v`.
-- e.g. d83d is high, de00 is low, and the pair is U+1F600.
abbrev pub paired : ℕ → ℕ → ℕ
paired u v = 0x10000 + ((u - 0xd800) * 1024 + (v - 0xdc00))

-- Relates one character as written in a string to its UTF-8 bytes. An unescaped multi-byte
-- character is related byte by byte. A surrogate must be part of a pair. A backslash is 92 and `u`
-- 117.
pub data Character : List ℕ → List ℕ → Type 0 where
  unescaped : {b : ℕ} → IsTrue (is_unescaped b) → Character (b ∷ []) (b ∷ [])
  short : {b c : ℕ} → short_escape b ≡ Some c → Character (92 ∷ b ∷ []) (c ∷ [])
  unicode : {h : List ℕ} {u : ℕ} → Hex h u → is_high_surrogate u ≡ false
      → is_low_surrogate u ≡ false → Character (92 ∷ 117 ∷ h) (encode_utf8 u)
  pair : {h l : List ℕ} {u v : ℕ} → Hex h u → IsTrue (is_high_surrogate u)
      → Hex l v → IsTrue (is_low_surrogate v)
      → Character (92 ∷ 117 ∷ (h ++ 92 ∷ 117 ∷ l)) (encode_utf8 (paired u v))

-- Relates a sequence of characters as written in a string to its UTF-8 bytes.
-- e.g. `\ud83d\ude00` denotes the bytes f0 9f 98 80; `\ud83d` alone denotes nothing; `\/` denotes
-- `/`.
pub data StringBody : List ℕ → List ℕ → Type 0 where
  empty : StringBody [] []
  one_more : {written meant body text : List ℕ} → Character written meant → StringBody body text
      → StringBody (written ++ body) (meant ++ text)
