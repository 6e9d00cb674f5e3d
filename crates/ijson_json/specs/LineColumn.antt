-- The number of lines and characters in UTF-8 bytes. A line ends with a line feed. A character is
-- counted at its first byte.
use Rattle.std.specs.Prelude.{◌≡◌, ◌+◌, ◌-◌, ◌^◌, min, ◌++◌, ◌⊎◌, ℕ, suc, List, [], ◌∷◌, Bool, cond, nat_eq, nat_lt, leb, ◌||◌}

-- The number of line feeds.
abbrev pub line_feeds : List ℕ → ℕ
line_feeds [] = 0
line_feeds (b ∷ bytes) = cond (nat_eq b 10) (suc (line_feeds bytes)) (line_feeds bytes)

-- Returns `true` if a byte is the first of a character. The following bytes of a character are 128
-- to 191 (RFC 3629, section 3).
abbrev pub begins : ℕ → Bool
begins b = nat_lt b 128 || leb 192 b

-- The number of characters whose first byte is in the list.
-- e.g. the bytes of `é` and a line feed, c3 a9 0a, have one line feed and two characters.
abbrev pub characters : List ℕ → ℕ
characters [] = 0
characters (b ∷ bytes) = cond (begins b) (suc (characters bytes)) (characters bytes)

-- Holds if the bytes are complete lines: the list is empty or ends with a line feed.
abbrev pub AreLines : List ℕ → Type 0
AreLines bytes = (bytes ≡ []) ⊎ ((before : List ℕ) × (bytes ≡ before ++ 10 ∷ []))

-- Holds if the bytes are `lines` complete lines, then `more` characters of the next line.
abbrev pub Counts : List ℕ → ℕ → ℕ → Type 0
Counts bytes lines more =
    (whole : List ℕ) × (begun : List ℕ) × (bytes ≡ whole ++ begun) × AreLines whole × (line_feeds begun ≡ 0)
    × (lines ≡ line_feeds bytes) × (more ≡ characters begun)

-- Holds if the position after the bytes is at `line` and `column`. Both are counted from 1 and
-- capped at `2 ^ 64 - 1`.
-- e.g. after `{`, a line feed and `"b` are line 2 and column 3.
abbrev pub Follows : List ℕ → ℕ → ℕ → Type 0
Follows bytes line column = (lines : ℕ) × (more : ℕ) × Counts bytes lines more
    × (line ≡ min (lines + 1) (2 ^ 64 - 1)) × (column ≡ min (more + 1) (2 ^ 64 - 1))
