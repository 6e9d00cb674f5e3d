-- Feeding an array or an object to a hasher, write by write, feeds the words of its tree.
use Rattle.std.proofs.Common.{◌≡◌, ℕ, suc, ◌<◌, ◌%◌, ◌^◌, List, ◌∷◌, length, get_or, drop, fold, sym, ap, ◌∙◌}
use Rattle.std.proofs.Math.Seq.{drop-cons}
use Rattle.std.proofs.lemmas.Grind.{flat_map-append, fold-append}
use Rattle.std.specs.Hash as fed
use Rattle.std.specs.Hash.{HashWrites}
use Rattle.std.specs.List.{flat_map}
use Rattle.ijson_value.specs.Tree.{members_len}
use Rattle.ijson_value.specs.Values.{array_tree, object_tree}
use Rattle.ijson_value.specs.WellFormed.{WellFormed, item_trees, pair_trees}
use Rattle.ijson_value.specs.Length.{items_len}
use Rattle.ijson_value.specs.Words.{words, item_words, pair_sum}
use Rattle.ijson_value.specs.laws.Lengths.{items_len-items, members_len-pairs}

-- The writes to a hasher that feed the words `ws`.
abbrev pub feed : List ℕ → HashWrites
feed ws = flat_map fed.u64 ws

module _ {S : Type 0} (w : S → List ℕ → S) where
  -- If `m` equals `n`, then feeding `m` has the same result as feeding `n`.
  one_more : (s t : S) (m n : ℕ) → t ≡ fold w s (fed.u64 m) → m ≡ n → t ≡ fold w s (fed.u64 n)
  one_more s t m n e f = e ∙ ap (λ k. fold w s (fed.u64 k)) f

  -- Feeding 5, the length, and the sum of the folds, in this order, feeds the words of an object.
  pub object_fed : (a b c d : S) (n : ℕ) (ps : List (List ℕ × WellFormed)) → b ≡ fold w a (fed.u64 5)
      → c ≡ fold w b (fed.u64 (length ps)) → n ≡ pair_sum (pair_trees ps) % 2 ^ 64 → d ≡ fold w c (fed.u64 n)
      → d ≡ fold w a (feed (words (object_tree ps)))
  object_fed a b c d n ps five len is sum =
      let m = pair_sum (pair_trees ps) % 2 ^ 64 in
      one_more c d n m sum is
      ∙ ap (λ s. fold w s (fed.u64 m)) (one_more b c (length ps) _ len (sym (members_len-pairs ps))
      ∙ ap (λ s. fold w s (fed.u64 (members_len (pair_trees ps)))) five)

  -- Feeding 4, the length, and the words of all elements, in this order, feeds the words of an
  -- array.
  pub array_fed : (a b c d : S) (vs : List WellFormed) → b ≡ fold w a (fed.u64 4)
      → c ≡ fold w b (fed.u64 (length vs)) → fold w c (feed (item_words (item_trees vs))) ≡ d
      → d ≡ fold w a (feed (words (array_tree vs)))
  array_fed a b c d vs four len items =
      sym items
      ∙ ap (λ s. fold w s (feed (item_words (item_trees vs))))
      (one_more b c (length vs) _ len (sym (items_len-items vs))
      ∙ ap (λ s. fold w s (fed.u64 (items_len (item_trees vs)))) four)

  -- Feeding the elements from index `i` on is feeding the element at `i` and then the elements
  -- after `i`.
  pub item_fed : (s t : S) (vs : List WellFormed) (i : ℕ) (v : WellFormed) → i < length vs → v ≡ get_or vs i v
      → t ≡ fold w s (feed (words v.tree))
      → fold w s (feed (item_words (item_trees (drop i vs))))
      ≡ fold w t (feed (item_words (item_trees (drop (suc i) vs))))
  item_fed s t vs i v h e f =
      let rest = item_words (item_trees (drop (suc i) vs)) in
      ap (λ l. fold w s (feed (item_words (item_trees l))))
      (drop-cons vs i v h ∙ ap (λ u. u ∷ drop (suc i) vs) (sym e))
      ∙ ap (fold w s) (flat_map-append fed.u64 (words v.tree) rest)
      ∙ fold-append w s (feed (words v.tree)) (feed rest) ∙ ap (λ u. fold w u (feed rest)) (sym f)
