-- Reading the members of an object into a map, in order, results in a map that means the same as
-- the object, or in the error of the first rejected member.
use Rattle.std.proofs.Common.{◌≡◌, ℕ, suc, List, [], ◌∷◌, ◌++◌, map, refl, ap, sym, subst, ◌∙◌}
use Rattle.std.specs.BTreeMap.{insert_entry}
use Rattle.std.specs.Ordering.{match_ordering}
use Rattle.std.specs.Map.{values_of}
use Rattle.std.specs.Prelude.{All, String, string_bytes, string_cmp}
use Rattle.std.specs.declared.alloc.Global.{Global}
use Rattle.std.specs.declared.cmp.Ordering.TheVariants.{Less, Equal, Greater}
use Rattle.std.proofs.lemmas.List.{append_assoc, append-nil, map-append}
use Rattle.std.proofs.lemmas.List.Elements.{All-nil}
use Rattle.std.proofs.lemmas.Map.Lookups.{exact_bytes}
use Rattle.ijson_table.specs.Store.{Lacks, IsDistinct, keys_of}
use Rattle.ijson_value.specs.Same.{Same, SameIn, Has}
use Rattle.ijson_value.specs.Tree.{Tree, Items, Members, no_members, member, members_of, members_len, items_of}
use Rattle.ijson_value.specs.Values.{object_tree}
use Rattle.ijson_value.specs.WellFormed.{WellFormed, IsWellFormed, tree_of, pair_trees}
use Rattle.ijson_value.specs.laws.HoldsWellFormed.{member_keys-pairs}
use Rattle.ijson_value.specs.laws.SameLaws.{lacks_it}
use Rattle.ijson_convert.specs.IsRead.{IsRead}
use Rattle.ijson_convert.specs.MapTree.{pair_tree, map_tree}
use Rattle.ijson_convert.specs.Refused.{FirstRefused, MapRefused, member_values}
use Rattle.ijson_convert.specs.declared.convert_error.ConvertError.{ConvertError}
use Rattle.ijson_convert.proofs.pairs.PairTrees.{has_more, has_middle, len_last, key_is_new}
use Rattle.ijson_convert.proofs.reading.ItemsRead.{AllRead, read_pushed, refused_behind}

-- The trees of the values of entries, in order.
abbrev pub value_trees : List (List ℕ × WellFormed) → List Tree
value_trees ps = map (λ p. tree_of p.1) ps

-- The values of the members of `ps` are the trees of the values of `ps`.
values_are : (ps : List (List ℕ × WellFormed)) → member_values (pair_trees ps) ≡ items_of (value_trees ps)
values_are [] = refl
values_are (p ∷ ps) = ap (Items.item p.1.tree) (values_are ps)

-- If the entries `done` lack the key, so do their members.
pub no_member : (done : List (List ℕ × WellFormed)) (key : String Global) (k : List ℕ) (u : Tree) → string_bytes key ≡ k
    → Lacks k (keys_of done) → Has (string_bytes key) u (pair_trees done) → ⊥
no_member done key k u is lacks h =
    lacks_it k u (pair_trees done) (subst (Lacks k) (sym (member_keys-pairs done)) lacks) (subst (λ j. Has j u (pair_trees done)) is h)

-- If `new` includes all members of `old`, and each member of `ps` means the same as a member of
-- `old`, then each member of `ps` means the same as a member of `new`.
module _ (old new : Members) (grows : (k : List ℕ) (u : Tree) → Has k u old → Has k u new) where
  pub widened : (ps : Members) → SameIn ps old → SameIn ps new
  widened no_members s = tt
  widened (member k t ps) s = ((s.0.0, grows k s.0.0 s.0.1, s.0.2), widened ps s.1)

-- Inserting a new key into a map adds one member.
module _ {X : Type 0} (tree : X → Tree) where
  abbrev pub map_members : List (String Global × X) → Members
  map_members es = members_of (map (pair_tree tree) es)

  module _ (old new : Members) (grows : (k : List ℕ) (u : Tree) → Has k u old → Has k u new) (key : String Global) (x : X)
      (lacks : (u : Tree) → Has (string_bytes key) u old → ⊥)
      (partner : (u : Tree) × Has (string_bytes key) u new × Same (tree x) u) where
    inserted : (es : List (String Global × X)) → SameIn (map_members es) old
        → (members_len (map_members (insert_entry string_cmp es key x)) ≡ suc (members_len (map_members es)))
        × SameIn (map_members (insert_entry string_cmp es key x)) new
    inserted [] s = (refl, (partner, tt))
    inserted (e ∷ es) s = elim (string_cmp key e.0)
        as (λ o. string_cmp key e.0 ≡ o
        → (members_len (map_members (match_ordering o ((key, x) ∷ e ∷ es) ((e.0, x) ∷ es) (e ∷ insert_entry string_cmp es key x))) ≡ suc
        (suc (members_len (map_members es))))
        × SameIn (map_members (match_ordering o ((key, x) ∷ e ∷ es) ((e.0, x) ∷ es) (e ∷ insert_entry string_cmp es key x))) new) [
          | Less ↦ λ _. (refl, (partner, widened old new grows (map_members (e ∷ es)) s))
          | Equal ↦ λ same.
              let one_key : string_bytes key ≡ string_bytes e.0 = exact_bytes (string_bytes key) (string_bytes e.0) same in
              absurd (lacks s.0.0 (subst (λ k. Has k s.0.0 old) (sym one_key) s.0.1))
          | Greater ↦ λ _.
              let rest = inserted es s.1 in
              (ap suc rest.0, ((s.0.0, grows (string_bytes e.0) s.0.0 s.0.1, s.0.2), rest.1))
        ] refl

  -- If the map `es` means the same as `done`, which lacks `key`, and `x` means the same as `v`,
  -- then `es` with `key` and `x` inserted means the same as `done` with `k` and `v` appended.
  pub member_same : (es grown : List (String Global × X)) (done : List (List ℕ × WellFormed)) (key : String Global) (k : List ℕ) (x : X)
      (v : WellFormed)
      → grown ≡ insert_entry string_cmp es key x → string_bytes key ≡ k → Lacks k (keys_of done)
      → Same (map_tree tree es) (object_tree done) → Same (tree x) v.tree → Same (map_tree tree grown) (object_tree (done ++ (k, v) ∷ []))
  member_same es grown done key k x v put is lacks s same =
      let more = inserted (pair_trees done) (pair_trees (done ++ (k, v) ∷ [])) (has_more done ((k, v) ∷ [])) key x
      (λ u h. no_member done key k u is lacks h)
      (v.tree, subst (λ j. Has j v.tree (pair_trees (done ++ (k, v) ∷ []))) (sym is) (has_middle done (k, v) []), same)
      es s.1 in
      subst (λ l. Same (map_tree tree l) (object_tree (done ++ (k, v) ∷ []))) (sym put)
      (more.0 ∙ ap suc s.0 ∙ sym (len_last done (k, v)), more.1)

-- Holds if the members `done` of the object are accepted, the map `es` means the same as `done`,
-- and `NullIsNone` holds for all values of the map.
pub record ReadSoFar {X : Type 0} (tree : X → Tree) (Refused : Tree → ConvertError → Type 0) (NullIsNone : X → Type 0)
    (object : WellFormed) (left : List (List ℕ × WellFormed)) (es : List (String Global × X)) : Type 0 where
  pub done : List (List ℕ × WellFormed)
  pub parts : object.tree ≡ object_tree (done ++ left)
  pub same : Same (map_tree tree es) (object_tree done)
  pub read : AllRead Refused (value_trees done)
  pub none : All NullIsNone (values_of es)

module _ {X : Type 0} {tree : X → Tree} {Refused : Tree → ConvertError → Type 0} {NullIsNone : X → Type 0}
    {object : WellFormed} {it : List (List ℕ × WellFormed)} {es : List (String Global × X)} where
  pub none_so_far : object.tree ≡ object_tree it → es ≡ [] → ReadSoFar tree Refused NullIsNone object it es
  none_so_far parts empty = record {
    done = [];
    parts = parts;
    same = subst (λ l. Same (map_tree tree l) (object_tree [])) (sym empty) (refl, tt);
    read = λ e r. r;
    none = subst (λ l. All NullIsNone (values_of l)) (sym empty) (All-nil NullIsNone);
  }

  module _ (so_far : ReadSoFar tree Refused NullIsNone object it es) where
    module _ {k : List ℕ} {v : WellFormed} {left : List (List ℕ × WellFormed)} (steps : it ≡ (k, v) ∷ left) where
      here : object.tree ≡ object_tree (so_far.done ++ (k, v) ∷ left)
      here = so_far.parts ∙ ap (λ l. object_tree (so_far.done ++ l)) steps

      pub new_key : Lacks k (keys_of so_far.done)
      new_key =
          let distinct = (subst IsWellFormed here object.well_formed).0 in
          key_is_new so_far.done k v left _ refl (subst IsDistinct (member_keys-pairs (so_far.done ++ (k, v) ∷ left)) distinct)

      -- If the next member is read, `ReadSoFar` holds with this member in `done`.
      pub one_read : {grown : List (String Global × X)} → Same (map_tree tree grown) (object_tree (so_far.done ++ (k, v) ∷ []))
          → IsRead Refused v.tree → All NullIsNone (values_of grown) → ReadSoFar tree Refused NullIsNone object left grown
      one_read same read none = record {
        done = so_far.done ++ (k, v) ∷ [];
        parts = here ∙ ap object_tree (sym (append_assoc so_far.done ((k, v) ∷ []) left));
        same = same;
        read = subst (AllRead Refused) (sym (map-append (λ p. tree_of p.1) so_far.done ((k, v) ∷ [])))
            (read_pushed Refused (value_trees so_far.done) v.tree so_far.read read);
        none = none;
      }

      -- If a member is rejected, the object is rejected with the same error.
      pub one_refused : {e : ConvertError} → Refused v.tree e → MapRefused Refused object.tree e
      one_refused {e} refused =
          subst (λ t. MapRefused Refused t e) (sym here)
          (subst (λ items. FirstRefused Refused items e)
          (sym (values_are (so_far.done ++ (k, v) ∷ left) ∙ ap items_of (map-append (λ p. tree_of p.1) so_far.done ((k, v) ∷ left))))
          (refused_behind Refused (value_trees so_far.done) v.tree (value_trees left) e so_far.read refused))

    -- If the iterator has ended, the map means the same as the object, and the object is accepted.
    pub all_read : it ≡ [] → Same (map_tree tree es) object.tree × IsRead (MapRefused Refused) object.tree
    all_read none =
        let done = sym (so_far.parts ∙ ap (λ l. object_tree (so_far.done ++ l)) none ∙ ap object_tree (append-nil so_far.done)) in (
          subst (Same (map_tree tree es)) done so_far.same,
          subst (IsRead (MapRefused Refused)) done
              (λ e r. so_far.read e (subst (λ items. FirstRefused Refused items e) (values_are so_far.done) r)),
        )
