-- Lemmas about creating the entries of an object one by one: the entries so far have the keys and
-- trees of the given items, and the strings of these items are interned.
use Rattle.std.proofs.Common.{◌≡◌, ℕ, List, [], ◌∷◌, ◌++◌, length, map, ap, ap₂, sym, subst, ◌∙◌}
use Rattle.std.proofs.lemmas.List.{length-map, map-append}
use Rattle.std.proofs.lemmas.Simd.{map-map}
use Rattle.ijson_string.specs.Cache.{Texts}
use Rattle.ijson_table.specs.Store.{IsDistinct, keys_of, put_each}
use Rattle.ijson_table.proofs.pairs.PutEach.{put_each-new}
use Rattle.ijson_value.specs.Tree.{Tree, object, members_of}
use Rattle.ijson_value.specs.Values.{object_tree}
use Rattle.ijson_value.specs.WellFormed.{WellFormed}
use Rattle.ijson_value.specs.laws.MemberTrees.{pair_tree, keys_of-trees}
use Rattle.ijson_convert.specs.Interned.{all_interned, SomeInterned}
use Rattle.ijson_convert.specs.TextsOf.{texts_of, members_texts}
use Rattle.ijson_convert.proofs.Interning.{entry_strings, one_interned, one_begun}

-- Holds if the entries `ps` have the keys and trees of `given`, and the strings of `given` were
-- interned.
pub record SoFar {X : Type 0} (pair : X → List ℕ × Tree) (old : Texts) (ps : List (List ℕ × WellFormed)) (given : List X) (cache : Texts) : Type 0 where
  pub pairs : map pair_tree ps ≡ map pair given
  pub texts : cache ≡ all_interned (members_texts (members_of (map pair given))) old

module _ {X : Type 0} {pair : X → List ℕ × Tree} {old : Texts} {ps : List (List ℕ × WellFormed)} {given : List X} {cache : Texts}
    (so_far : SoFar pair old ps given cache) where
  -- `ps` and `given` have the same length.
  pub as_many : length ps ≡ length given
  as_many = sym (length-map ps pair_tree) ∙ ap length so_far.pairs ∙ length-map given pair

  module _ (x : X) {k : List ℕ} (is : k ≡ (pair x).0) where
    -- If the entry of `x` is appended and its strings are interned, `SoFar` holds for
    -- `given ++ x ∷ []`.
    pub one_more : (p : List ℕ × WellFormed) → p.0 ≡ k → p.1.tree ≡ (pair x).1 → {ps' : List (List ℕ × WellFormed)} → ps' ≡ ps ++ p ∷ []
        → {given' : List X} → given' ≡ given ++ x ∷ [] → {new : Texts} → new ≡ all_interned (k ∷ texts_of (pair x).1) cache
        → SoFar pair old ps' given' new
    one_more p key_is tree_is pushed grown {new} n = record {
      pairs = ap (map pair_tree) pushed ∙ map-append pair_tree ps (p ∷ [])
          ∙ ap₂ (λ l (q : List ℕ × Tree). l ++ q ∷ []) so_far.pairs (λ i. ((key_is ∙ is) i, tree_is i))
          ∙ sym (ap (map pair) grown ∙ map-append pair given (x ∷ []));
      texts = one_interned (entry_strings pair) given x old cache new so_far.texts
          (n ∙ ap (λ j. all_interned (j ∷ texts_of (pair x).1) cache) is)
          ∙ ap (λ xs. all_interned (members_texts (members_of (map pair xs))) old) (sym grown);
    }

    -- If some leading strings of `x` were interned after all strings of `given`, then some leading
    -- strings of the list `all` were interned.
    pub one_refused : {all : List X} (rest : List X) → all ≡ given ++ x ∷ rest → {new : Texts}
        → SomeInterned (k ∷ texts_of (pair x).1) cache new → SomeInterned (members_texts (members_of (map pair all))) old new
    one_refused {all} rest parts {new} s = one_begun (entry_strings pair) given x old cache new so_far.texts rest all (sym parts)
        (subst (λ j. SomeInterned (j ∷ texts_of (pair x).1) cache new) is s)

  -- If the keys are distinct, inserting the entries in order creates the object of exactly these
  -- entries.
  pub all_put : IsDistinct (map (λ x. (pair x).0) given) → {made : List (List ℕ × WellFormed)} → made ≡ put_each [] ps
      → object_tree made ≡ object (members_of (map pair given))
  all_put distinct puts =
      let keys = sym (map-map (λ p. p.0) pair given) ∙ ap keys_of (sym so_far.pairs) ∙ keys_of-trees ps in
      ap object_tree (puts ∙ put_each-new [] ps (subst IsDistinct keys distinct)) ∙ ap (λ l. object (members_of l)) so_far.pairs
