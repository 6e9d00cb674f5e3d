-- The state of a word fold after one write of bytes. Eight bytes add one word, lowest byte first. A
-- write of any other length changes nothing.
use Rattle.std.specs.Prelude.{ℕ, List, cond, length, ◌==◌}
use Rattle.std.specs.Int.{w64, from_le_bytes}
use Rattle.ijson_table.specs.Fold.{fold_word}

abbrev pub folded : ℕ → List ℕ → ℕ
folded h bytes = cond (length bytes == 8) (fold_word h (from_le_bytes w64 bytes)) h
