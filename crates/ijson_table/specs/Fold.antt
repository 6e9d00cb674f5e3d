-- The hash of `FixedHash`: words are folded to a number below 2 ^ 64. The basis and the prime are
-- the numbers of FNV in 64 bits. The hash is not FNV: a word is added, not combined by exclusive
-- or.
use Rattle.std.specs.Prelude.{ℕ, ◌+◌, ◌*◌, ◌%◌, ◌^◌, List, fold}

-- The initial hash: the offset basis of FNV in 64 bits.
abbrev pub basis : ℕ
basis = 14695981039346656037

-- The multiplier of each step: the prime of FNV in 64 bits.
abbrev pub prime : ℕ
prime = 1099511628211

-- The hash `h` after one more word is folded.
unfoldable pub fold_word : ℕ → ℕ → ℕ
fold_word h word = (h * prime + word) % 2 ^ 64

-- The hash of `words`: they are folded in order, starting from the basis.
-- e.g. the empty text gives cbf29ce484222325, and `a` gives af63bd4c8601b840 (hexadecimal).
abbrev pub fold_words : List ℕ → ℕ
fold_words words = fold fold_word basis words
