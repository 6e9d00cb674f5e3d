-- Writing the elements of an array or the members of an object one at a time, with commas between
-- them, writes the text between the brackets.
use Rattle.std.proofs.Common.{◌≡◌, Bool, true, false, ℕ, List, [], ◌∷◌, ◌++◌, map, refl, ap, sym, ◌∙◌, append-nil}
use Rattle.ijson_value.specs.Tree.{Tree}
use Rattle.ijson_value.specs.WellFormed.{WellFormed, item_trees, pair_trees}
use Rattle.ijson_json.specs.Separator.{separator}
use Rattle.ijson_json.specs.Print.{quoted, print, print_items, print_members}

-- The concatenation of the texts, each after its separator.
abbrev pub joined : Bool → List (List ℕ) → List ℕ
joined is_first [] = []
joined is_first (text ∷ texts) = separator is_first ++ (text ++ joined false texts)

-- If `all` joins the texts of its elements with commas, writing the elements one at a time writes
-- the text of `all`.
module _ {X : Type 0} (text : X → List ℕ) (all : List X → List ℕ) (none : all [] ≡ [])
    (one : (x : X) → all (x ∷ []) ≡ text x) (several : (x y : X) (xs : List X) → all (x ∷ y ∷ xs) ≡ text x ++ 44 ∷ all (y ∷ xs)) where
  -- If an element was written before, the remaining elements are written with a comma before each.
  joined_others : (x : X) (xs : List X) → joined false (map text (x ∷ xs)) ≡ 44 ∷ all (x ∷ xs)
  joined_others x [] = ap (λ l. 44 ∷ l) (append-nil (text x) ∙ sym (one x))
  joined_others x (y ∷ xs) = ap (λ l. 44 ∷ l) (ap (λ l. text x ++ l) (joined_others y xs) ∙ sym (several x y xs))

  -- Writing the elements one at a time writes the text of all elements.
  pub joined_all : (xs : List X) → joined true (map text xs) ≡ all xs
  joined_all [] = sym none
  joined_all (x ∷ []) = append-nil (text x) ∙ sym (one x)
  joined_all (x ∷ y ∷ xs) = ap (λ l. text x ++ l) (joined_others y xs) ∙ sym (several x y xs)

-- The list of the texts of the elements.
abbrev pub item_texts : (Tree → List ℕ) → List WellFormed → List (List ℕ)
item_texts text vs = map (λ v. text v.tree) vs

-- The list of the texts of the members: a key, a colon and a value.
abbrev pub member_texts : (Tree → List ℕ) → List (List ℕ × WellFormed) → List (List ℕ)
member_texts text ps = map (λ p. quoted p.0 ++ 58 ∷ text p.1.tree) ps

-- Writing the elements one at a time writes the text of the array without its brackets.
pub joined-items : (vs : List WellFormed) → joined true (item_texts print vs) ≡ print_items (item_trees vs)
joined-items vs = joined_all (λ v. print v.tree) (λ vs. print_items (item_trees vs)) refl (λ v. refl) (λ v w vs. refl) vs

-- Writing the members one at a time writes the text of the object without its brackets.
pub joined-members : (ps : List (List ℕ × WellFormed)) → joined true (member_texts print ps) ≡ print_members (pair_trees ps)
joined-members ps =
    joined_all (λ p. quoted p.0 ++ 58 ∷ print p.1.tree) (λ ps. print_members (pair_trees ps)) refl (λ p. refl) (λ p q ps. refl) ps
