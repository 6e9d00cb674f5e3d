-- The JSON tree of a `serde_json` value has the same strings, in the same order. An array or object
-- has a tree only if each of its values has a tree.
use Rattle.std.proofs.Common.{◌≡◌, ℕ, List, map, [], ◌∷◌, ◌++◌, refl, ap, ap₂, sym, subst}
use Rattle.std.proofs.Common.{◌∙◌}
use Rattle.std.specs.Prelude.{string_bytes, string_cmp}
use Rattle.std.specs.List.Sorted.{IsStrictlySortedBy}
use Rattle.std.specs.Map.{keys_of}
use Rattle.serde_json.specs.Data as serde
use Rattle.serde_json.specs.Data.{Data}
use Rattle.serde_json.specs.View.{view, items_view, members_view}
use Rattle.serde_json.specs.declared.value.Value.{Value}
use Rattle.serde_json.proofs.Views.{Entry}
use Rattle.ijson_string.specs.Cache.{Texts, interned}
use Rattle.ijson_table.specs.Store.{IsDistinct, keys_of as store_keys, put_each}
use Rattle.ijson_table.proofs.pairs.PutEach.{put_each-new}
use Rattle.ijson_value.proofs.FromMaps.{ordered_keys}
use Rattle.ijson_value.specs.Tree.{Tree, null, boolean, number, string, array, object, Items, no_items, item, Members, no_members, member}
use Rattle.ijson_value.specs.WellFormed.{WellFormed, item_trees, pair_trees}
use Rattle.ijson_convert.specs.Interned.{all_interned}
use Rattle.ijson_convert.specs.SerdeTexts.{serde_texts, serde_items_texts, serde_members_texts}
use Rattle.ijson_convert.specs.SerdeTree.{SerdeTree, SerdeItems, SerdeMembers, HasNoTree}
use Rattle.ijson_convert.specs.TextsOf.{texts_of, items_texts, members_texts}
use Rattle.ijson_convert.proofs.Interning.{Strings}

-- The JSON tree of a `serde_json` value has the same strings, in the same order.
mutual
  pub tree_texts : (d : Data) (t : Tree) → SerdeTree d t → texts_of t ≡ serde_texts d
  tree_texts serde.null null h = refl
  tree_texts (serde.boolean a) (boolean b) h = refl
  tree_texts (serde.number m) (number n) h = refl
  tree_texts (serde.string s) (string t) h = ap (λ x. x ∷ []) (sym h)
  tree_texts (serde.array ds) (array ts) h = same_items_texts ds ts h
  tree_texts (serde.object ms) (object ps) h = same_members_texts ms ps h
  tree_texts _ _ h = absurd h

  -- The trees of a list have the strings of the list, in the same order.
  same_items_texts : (ds : serde.Items) (ts : Items) → SerdeItems ds ts → items_texts ts ≡ serde_items_texts ds
  same_items_texts serde.no_items no_items h = refl
  same_items_texts (serde.item d ds) (item t ts) h =
      ap₂ (λ a b. a ++ b) (tree_texts d t h.0) (same_items_texts ds ts h.1)
  same_items_texts _ _ h = absurd h

  -- The trees of a map's members have the strings of the map, in the same order.
  same_members_texts : (ms : serde.Members) (ps : Members) → SerdeMembers ms ps
      → members_texts ps ≡ serde_members_texts ms
  same_members_texts serde.no_members no_members h = refl
  same_members_texts (serde.member k d ms) (member j t ps) h =
      ap₂ (λ a b. a ∷ b) (sym h.0) (ap₂ (λ a b. a ++ b) (tree_texts d t h.1) (same_members_texts ms ps h.2))
  same_members_texts _ _ h = absurd h

-- The strings of one `serde_json` value (`each`), and of a list of values in order (`all`).
abbrev pub value_strings : Strings Value
value_strings = record {
  each = λ v. serde_texts (view v);
  all = λ vs. serde_items_texts (items_view vs);
  none = refl;
  first = λ _ _. refl;
}

abbrev pub member_strings : Strings Entry
member_strings = record {
  each = λ e. string_bytes e.0 ∷ serde_texts (view e.1);
  all = λ es. serde_members_texts (members_view es);
  none = refl;
  first = λ _ _. refl;
}

-- Interning the key of an entry and then the strings of its tree interns all strings of the entry.
pub entry_interned : (e : Entry) (t : Tree) (k : List ℕ) (old middle new : Texts) → middle ≡ interned k old → k ≡ string_bytes e.0
    → new ≡ all_interned (texts_of t) middle → SerdeTree (view e.1) t → new ≡ all_interned (member_strings.each e) old
entry_interned e t k old middle new keyed is read tree =
    read ∙ ap (λ l. all_interned l middle) (tree_texts (view e.1) t tree)
    ∙ ap (all_interned (serde_texts (view e.1))) (keyed ∙ ap (λ k. interned k old) is)

-- If the list `vs` has the trees of `us` and `v` has the tree of `u`, then `vs` with `v` appended
-- has the trees of `us` with `u` appended.
pub items_more : (vs : List Value) (us : List WellFormed) (v : Value) (u : WellFormed)
    → SerdeItems (items_view vs) (item_trees us) → SerdeTree (view v) u.tree
    → SerdeItems (items_view (vs ++ v ∷ [])) (item_trees (us ++ u ∷ []))
items_more [] [] v u h s = (s, tt)
items_more [] (w ∷ us) v u h s = absurd h
items_more (x ∷ vs) [] v u h s = absurd h
items_more (x ∷ vs) (w ∷ us) v u h s = (h.0, items_more vs us v u h.1 s)

-- If the entries `es` have the members `ps` and the value of `e` has the tree of `u`, then `es`
-- with `e` appended have the members `ps` with the key of `e` and `u` appended.
pub members_more : (es : List Entry) (ps : List (List ℕ × WellFormed)) (e : Entry) (u : WellFormed)
    → SerdeMembers (members_view es) (pair_trees ps) → SerdeTree (view e.1) u.tree
    → SerdeMembers (members_view (es ++ e ∷ [])) (pair_trees (ps ++ (string_bytes e.0, u) ∷ []))
members_more [] [] e u h s = (refl, s, tt)
members_more [] (p ∷ ps) e u h s = absurd h
members_more (f ∷ es) [] e u h s = absurd h
members_more (f ∷ es) (p ∷ ps) e u h s = (h.0, h.1, members_more es ps e u h.2 s)

-- If an element does not have a tree, a list that contains it does not have trees.
items_none : (before : List Value) (v : Value) (left : List Value) → HasNoTree (view v) → (ts : Items)
    → SerdeItems (items_view (before ++ v ∷ left)) ts → ⊥
items_none [] v left never no_items h = h
items_none [] v left never (item t ts) h = never t h.0
items_none (x ∷ before) v left never no_items h = h
items_none (x ∷ before) v left never (item t ts) h = items_none before v left never ts h.1

-- If the value of an entry does not have a tree, entries that include it do not have members.
members_none : (before : List Entry) (e : Entry) (left : List Entry) → HasNoTree (view e.1) → (ps : Members)
    → SerdeMembers (members_view (before ++ e ∷ left)) ps → ⊥
members_none [] e left never no_members h = h
members_none [] e left never (member k t ps) h = never t h.1
members_none (f ∷ before) e left never no_members h = h
members_none (f ∷ before) e left never (member k t ps) h = members_none before e left never ps h.2

-- If an element does not have a tree, an array that contains it does not have a tree.
pub array_none : (before : List Value) (v : Value) (left : List Value) → HasNoTree (view v)
    → HasNoTree (serde.array (items_view (before ++ v ∷ left)))
array_none before v left never (array ts) h = items_none before v left never ts h
array_none before v left never _ h = absurd h

-- If the value of an entry does not have a tree, an object with this entry does not have a tree.
pub object_none : (before : List Entry) (e : Entry) (left : List Entry) → HasNoTree (view e.1)
    → HasNoTree (serde.object (members_view (before ++ e ∷ left)))
object_none before e left never (object ps) h = members_none before e left never ps h
object_none before e left never _ h = absurd h

-- The JSON entries of a map have the keys of the map, in the same order.
keys_are : (es : List Entry) (ps : List (List ℕ × WellFormed)) → SerdeMembers (members_view es) (pair_trees ps)
    → store_keys ps ≡ map (λ e. string_bytes e.0) es
keys_are [] [] h = refl
keys_are [] (p ∷ ps) h = absurd h
keys_are (e ∷ es) [] h = absurd h
keys_are (e ∷ es) (p ∷ ps) h = ap₂ (λ k l. k ∷ l) (sym h.0) (keys_are es ps h.2)

-- If the keys of a map ascend, inserting its JSON entries in order appends each of them.
pub pairs_last : (es : List Entry) (ps : List (List ℕ × WellFormed)) → SerdeMembers (members_view es) (pair_trees ps)
    → IsStrictlySortedBy string_cmp (keys_of es) → put_each [] ps ≡ ps
pairs_last es ps h sorted = put_each-new [] ps (subst IsDistinct (sym (keys_are es ps h)) (ordered_keys string_bytes es sorted))
