-- A `WordFold` to which the words of a value are written contains the fold of these words.
use Rattle.std.proofs.Common.{◌≡◌, ℕ, ◌%◌, ◌^◌, List, [], ◌∷◌, length, fold, sym, ap, ◌∙◌, arith}
use Rattle.std.specs.Hash as fed
use Rattle.std.specs.Int.{w64, from_le_bytes, to_le_bytes}
use Rattle.std.specs.List.{flat_map}
use Rattle.ijson_table.specs.Fold.{fold_word}
use Rattle.ijson_value.specs.declared.word_fold.WordFold.{WordFold}
use Rattle.ijson_value.specs.private.Folded.{folded}
use Rattle.ijson_value.specs.Values.{array_tree, object_tree}
use Rattle.ijson_value.specs.WellFormed.{WellFormed, item_trees, pair_trees}
use Rattle.ijson_value.specs.Words.{words, item_words, pair_sum}
use Rattle.ijson_value.specs.laws.Lengths.{items_len-items, members_len-pairs}

-- Reading the eight bytes of a word returns the word modulo `2 ^ 64`.
read_back : (w : ℕ) → from_le_bytes w64 (to_le_bytes w64 w) ≡ w % 2 ^ 64
read_back w = omega arith

-- Folding a word modulo `2 ^ 64` has the same result as folding the word.
modulo_word : (h w : ℕ) → fold_word h (w % 2 ^ 64) ≡ fold_word h w
unfolding fold_word
modulo_word h w = omega arith

-- Writing the eight bytes of a word folds the word.
pub folded_word : (h w : ℕ) → folded h (fed.le_bytes 8 w) ≡ fold_word h w
unfolding fed.le_bytes
folded_word h w = ap (fold_word h) (read_back w) ∙ modulo_word h w

-- Writing the words `ws` to a `WordFold` folds them in order.
pub folded_words : (s t : WordFold) (ws : List ℕ)
    → t ≡ fold (λ (r : WordFold) bytes. record { 0 = folded r.0 bytes }) s (flat_map fed.u64 ws)
    → t.0 ≡ fold fold_word s.0 ws
folded_words s t [] e = ap (λ r. r.0) e
folded_words s t (w ∷ ws) e =
    folded_words (record { 0 = folded s.0 (fed.le_bytes 8 w) }) t ws e
    ∙ ap (λ h. fold fold_word h ws) (folded_word s.0 w)

-- Folding 4, the length, and the words of all elements, in this order, folds the words of an array.
pub array_folded : (h a b r : ℕ) (vs : List WellFormed) → a ≡ fold_word h 4 → b ≡ fold_word a (length vs)
    → r ≡ fold fold_word b (item_words (item_trees vs)) → r ≡ fold fold_word h (words (array_tree vs))
array_folded h a b r vs p q e =
    e ∙ ap (λ n. fold fold_word n (item_words (item_trees vs)))
    (q ∙ ap (λ n. fold_word n (length vs)) p ∙ ap (fold_word (fold_word h 4)) (sym (items_len-items vs)))

-- Folding 5, the length, and the sum of the folds of all entries, in this order, folds the words of
-- an object.
pub object_folded : (h a b s r : ℕ) (ps : List (List ℕ × WellFormed)) → a ≡ fold_word h 5
    → b ≡ fold_word a (length ps) → s ≡ pair_sum (pair_trees ps) % 2 ^ 64 → r ≡ fold_word b s
    → r ≡ fold fold_word h (words (object_tree ps))
object_folded h a b s r ps p q e f =
    f ∙ ap (fold_word b) e
    ∙ ap (λ n. fold_word n (pair_sum (pair_trees ps) % 2 ^ 64))
    (q ∙ ap (λ n. fold_word n (length ps)) p ∙ ap (fold_word (fold_word h 5)) (sym (members_len-pairs ps)))
