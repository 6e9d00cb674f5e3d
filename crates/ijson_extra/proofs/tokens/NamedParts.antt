-- The child that a token refers to, and the array or object with this child replaced.
use Rattle.std.proofs.Common.{◌≡◌, ℕ, ◌≤◌, Bool, true, false, List, Option, Some, None, refl, sym, ap, ◌∙◌, length, MutBor}
use Rattle.std.specs.Prelude.{OnSome, option_map, option_and_then, slice_get, set, get_or}
use Rattle.std.proofs.lemmas.Option.{slice_get_past, slice_get-get_or, option_and_then_some}
use Rattle.ijson_table.specs.Store.{Store, at, lookup}
use Rattle.ijson_table.proofs.pairs.PairsByKey.{lookup-found, position_within}
use Rattle.ijson_table.specs.StoreWithValue.{store_with_value}
use Rattle.ijson_value.specs.LendsAtKey.{with_found, with_key}
use Rattle.ijson_value.specs.Sequence.{Sequence}
use Rattle.ijson_value.specs.Step.{by_position, by_key, tree_at, tree_with}
use Rattle.ijson_value.specs.Tree.{Tree, array, Items}
use Rattle.ijson_value.specs.Values.{array_tree, object_tree}
use Rattle.ijson_value.specs.WellFormed.{WellFormed, tree_of, item_trees}
use Rattle.ijson_value.proofs.pairs.Entries.{is_there}
use Rattle.ijson_value.specs.laws.Steps.{item_at, value_at, tree_with_step}
use Rattle.ijson_value.proofs.Found.{lent_tree}
use Rattle.ijson_value.specs.declared.value.Destructured.TheVariants.{Array, Object}
use Rattle.ijson_extra.specs.Pointer.{meant, position_named, names_position, child_at, stepped_with}
use Rattle.ijson_extra.specs.private.Walked.{written_at, meant_with, written_with}
use Rattle.ijson_extra.proofs.tokens.Positions.{digits_meant, position_digits, not_named, same_position}
use Rattle.ijson_extra.proofs.tokens.Options.{not_both, on_both, on_some, there_too}

pub named_meant : (token : List ℕ) (i : ℕ) (r : Bool) → names_position token ≡ r → position_named token ≡ Some i → meant token ≡ Some token
named_meant token i true is e = digits_meant token (position_digits token is)
named_meant token i false is e = not_both i (sym (not_named token is) ∙ e)

item_token : (ts : Items) (token : List ℕ) (i : ℕ) → position_named token ≡ Some i
    → written_at (array ts) token ≡ tree_at (array ts) (by_position i)
item_token ts token i e =
    ap (option_and_then (child_at (array ts))) (named_meant token i (names_position token) refl e)
    ∙ ap (λ p. option_and_then (tree_at (array ts)) (option_map by_position p)) e

item_token-with : (ts : Items) (token : List ℕ) (i : ℕ) (u : Tree) → position_named token ≡ Some i
    → written_with (array ts) token u ≡ tree_with (array ts) (by_position i) u
item_token-with ts token i u e =
    ap (λ m. meant_with (array ts) m u) (named_meant token i (names_position token) refl e)
    ∙ ap (λ p. stepped_with (array ts) (option_map by_position p) u) e

item_there : (vs : List WellFormed) (i : ℕ) (v : WellFormed) → slice_get vs i ≡ Some v
    → tree_at (array_tree vs) (by_position i) ≡ Some v.tree
item_there vs i v e = sym (item_at vs i) ∙ ap (option_map tree_of) e

-- The element at the index that a token denotes is the child that the token refers to.
module _ (a : Sequence) (token : List ℕ) (i : ℕ) (v : WellFormed) (named : position_named token ≡ Some i)
    (there : slice_get a.items i ≡ Some v) where
  pub item_found : Some v.tree ≡ written_at (array_tree a.items) token
  item_found = sym (item_token (item_trees a.items) token i named ∙ item_there a.items i v there)

  pub item_put : (w : WellFormed) → array_tree (set a.items i w) ≡ written_with (array_tree a.items) token w.tree
  item_put w =
      tree_with_step (Array a) (by_position i) w
      (is_there (tree_at (array_tree a.items) (by_position i)) v.tree (item_there a.items i v there))
      ∙ sym (item_token-with (item_trees a.items) token i w.tree named)

none_at : (vs : List WellFormed) (position : Option ℕ) → ((i : ℕ) → position ≡ Some i → length vs ≤ i)
    → None ≡ option_and_then (tree_at (array_tree vs)) (option_map by_position position)
none_at vs None h = refl
none_at vs (Some i) h = sym (ap (option_map tree_of) (slice_get_past vs i (h i refl))) ∙ item_at vs i

none_meant : (vs : List WellFormed) (token : List ℕ) (m : Option (List ℕ)) → meant token ≡ m
    → ((i : ℕ) → position_named token ≡ Some i → length vs ≤ i) → None ≡ option_and_then (child_at (array_tree vs)) m
none_meant vs token None is h = refl
none_meant vs token (Some m) is h = none_at vs (position_named m) (λ i e. h i (same_position token m is ∙ e))

-- If the array lacks the index that a token denotes, the token does not refer to a value.
pub item_missing : (vs : List WellFormed) (token : List ℕ) → ((i : ℕ) → position_named token ≡ Some i → length vs ≤ i)
    → None ≡ written_at (array_tree vs) token
item_missing vs token h = none_meant vs token (meant token) refl h

-- The value of the key that a token means is the child that the token refers to.
member_meant : (ps : List (List ℕ × WellFormed)) (m : Option (List ℕ))
    → option_map tree_of (option_and_then (λ key. lookup key ps) m) ≡ option_and_then (child_at (object_tree ps)) m
member_meant ps None = refl
member_meant ps (Some m) = value_at ps m

pub member_found : (ps : List (List ℕ × WellFormed)) (token : List ℕ) (r : Option (MutBor WellFormed))
    → option_map (λ v. v.now) r ≡ option_and_then (λ key. lookup key ps) (meant token)
    → option_map (λ v. v.now.tree) r ≡ written_at (object_tree ps) token
member_found ps token r e = lent_tree r ∙ ap (option_map tree_of) e ∙ member_meant ps (meant token)

pub member_missing : (ps : List (List ℕ × WellFormed)) (token : List ℕ) → None ≡ option_and_then (λ key. lookup key ps) (meant token)
    → None ≡ written_at (object_tree ps) token
member_missing ps token e = ap (option_map tree_of) e ∙ member_meant ps (meant token)

-- Replacing the value of the key that a token means replaces the child that the token refers to.
pub member_put : (o : Store WellFormed) (token m : List ℕ) (r : Option (MutBor WellFormed)) (w : WellFormed) → meant token ≡ Some m
    → option_map (λ v. v.now.tree) r ≡ written_at (object_tree o.pairs) token
    → OnSome r (object_tree (with_key o m w).pairs ≡ written_with (object_tree o.pairs) token w.tree)
member_put o token m r w is found = on_some r (λ some.
    let there = there_too r (tree_at (object_tree o.pairs) (by_key m)) (found ∙ ap (option_and_then (child_at (object_tree o.pairs))) is)
    some in
    tree_with_step (Object o) (by_key m) w there ∙ sym (ap (λ x. meant_with (object_tree o.pairs) x w.tree) is))

-- The entry at index `i` has the key that the token means, and its value is lent.
module _ (o : Store WellFormed) (token : List ℕ) (i : ℕ) (r : Option (MutBor WellFormed))
    (named : Some i ≡ option_and_then (at o.pairs) (meant token))
    (lent : option_map (λ v. v.now) r ≡ option_map (λ pair. pair.1) (slice_get o.pairs i)) where
  means : (m : List ℕ) × (meant token ≡ Some m) × (at o.pairs m ≡ Some i)
  means = option_and_then_some (at o.pairs) (meant token) i (sym named) (λ m is found. (m, is, found))

  pair_there : (d : List ℕ × WellFormed) → option_map (λ pair. pair.1) (slice_get o.pairs i) ≡ lookup means.0 o.pairs
  pair_there d =
      let is = slice_get-get_or o.pairs i d (position_within o.pairs means.0 i means.2) in
      ap (option_map (λ pair. pair.1)) is ∙ sym (lookup-found o.pairs means.0 i (get_or o.pairs i d) means.2 is)

  pub place_found : (d : List ℕ × WellFormed) → option_map (λ v. v.now.tree) r ≡ written_at (object_tree o.pairs) token
  place_found d = member_found o.pairs token r (lent ∙ pair_there d ∙ ap (option_and_then (λ key. lookup key o.pairs)) (sym means.1))

  pub place_put : (d : List ℕ × WellFormed) (w : WellFormed)
      → OnSome r (object_tree (store_with_value o i w).pairs ≡ written_with (object_tree o.pairs) token w.tree)
  place_put d w = on_both r (λ e. ap (λ found. object_tree (with_found o found w).pairs) (sym means.2) ∙ e)
      (member_put o token means.0 r w means.1 (place_found d))
