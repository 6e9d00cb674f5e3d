-- Slots with the indices of the first pairs of a list, and with the index of one more pair.
use Rattle.std.proofs.Common.{◌≡◌, ℕ, ◌+◌, ◌<◌, List, [], ◌∷◌, ◌++◌, length, map, take, get_or, None, sym, ap}
use Rattle.std.proofs.Common.{subst, ◌∙◌, le_of_lt, length-take-le}
use Rattle.std.proofs.lemmas.List.{take_more}
use Rattle.ijson_table.specs.declared.slot.Slot.{Slot}
use Rattle.ijson_table.specs.Store.{at, keys_of, IsDistinct}
use Rattle.ijson_table.specs.private.FirstPlaced.{FirstPlaced}
use Rattle.ijson_table.specs.private.Insertion.{IsTableOf}
use Rattle.ijson_table.proofs.pairs.PairsByKey.{distinct_pushed}
use Rattle.ijson_table.proofs.probing.KeyHashes.{hashes, length-hashes, hashes-push}

-- If `old` and `new` have the same first `n` keys, `FirstPlaced` for `old` implies `FirstPlaced`
-- for `new`.
pub same_first : {V : Type 0} {hash : List ℕ → ℕ} {old new : List (List ℕ × V)} {n : ℕ} {slots : List Slot} → FirstPlaced hash old n slots
    → keys_of (take n new) ≡ keys_of (take n old) → FirstPlaced hash new n slots
same_first {hash = hash} {slots = slots} placed same = record {
  table = subst (λ keys. IsTableOf (map hash keys) slots) (sym same) placed.table;
  distinct = subst IsDistinct (sym same) placed.distinct;
}

module _ {V : Type 0} (hash : List ℕ → ℕ) (pairs : List (List ℕ × V)) (n : ℕ) (within : n < length pairs) where
  -- The first `n` pairs have `n` hashes.
  pub first_hashes : length (hashes hash (take n pairs)) ≡ n
  first_hashes = length-hashes hash (take n pairs) ∙ length-take-le n pairs (le_of_lt within)

  -- If pair `n` has a new key, and the slots are a table of the hashes of the first `n + 1` pairs,
  -- `FirstPlaced` holds for `n + 1` pairs.
  pub next_placed : (pair : List ℕ × V) (h : ℕ) (new : List Slot) → pair ≡ get_or pairs n pair → h ≡ hash pair.0
      → at (take n pairs) pair.0 ≡ None → IsDistinct (keys_of (take n pairs)) → IsTableOf (hashes hash (take n pairs) ++ h ∷ []) new
      → FirstPlaced hash pairs (n + 1) new
  next_placed pair h new is hashed missing distinct table =
      let first : List (List ℕ × V) = take n pairs in
      let more : take (n + 1) pairs ≡ first ++ pair ∷ [] = take_more pairs n pair within ∙ ap (λ p. first ++ p ∷ []) (sym is) in
      record {
        table = subst (λ hs. IsTableOf hs new) (ap (λ x. hashes hash first ++ x ∷ []) hashed
            ∙ (sym (hashes-push hash first pair.0 pair.1) ∙ ap (hashes hash) (sym more))) table;
        distinct = subst (λ ps. IsDistinct (keys_of ps)) (sym more) (distinct_pushed first pair.0 pair.1 distinct missing);
      }
