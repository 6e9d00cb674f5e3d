-- The words that a string feeds to a hasher: 3, its length in bytes, and each byte. Each word is
-- fed by one call of `write_u64`.
use Rattle.std.specs.Prelude.{ℕ, List, ◌∷◌, length}

-- e.g. `hi` feeds 3, 2, 104, 105.
abbrev pub text_words : List ℕ → List ℕ
text_words text = 3 ∷ length text ∷ text
