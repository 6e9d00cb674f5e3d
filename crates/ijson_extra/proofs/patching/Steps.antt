-- Applying the first member of a merge patch, and then merging the rest of the patch, has the same
-- result as merging the complete patch.
use Rattle.std.proofs.Common.{◌≡◌, ◌≢◌, ℕ, inl, inr, List, [], ◌∷◌, Option, Some, None, refl, sym, ap, subst, ◌∙◌, ◌+◌}
use Rattle.std.proofs.Common.{arith, suc}
use Rattle.std.specs.Option.{unwrap_or}
use Rattle.std.specs.Prelude.{option_map}
use Rattle.ijson_table.specs.Store.{at, keys_of, lookup, put, shift_out, IsDistinct, Lacks}
use Rattle.ijson_table.proofs.pairs.KeyPositions.{same_key}
use Rattle.ijson_value.specs.AtKey.{out_at, shift_out_key}
use Rattle.ijson_value.specs.Kind.{kind_of}
use Rattle.ijson_value.specs.Tree.{Tree, null}
use Rattle.ijson_value.specs.Values.{null_value, object_tree}
use Rattle.ijson_value.specs.WellFormed.{WellFormed, tree_of, pair_trees}
use Rattle.ijson_value.specs.declared.value.ValueType.TheVariants.{Null}
use Rattle.ijson_value.specs.laws.MemberTrees.{members_list-pairs, keys_of-trees, put-members, shift_out-members}
use Rattle.ijson_value.specs.laws.Steps.{value_at}
use Rattle.ijson_extra.specs.MergePatch.{members_in, merged, merged_into, changed, without}
use Rattle.ijson_extra.proofs.patching.Joined.{without-lacks}

-- If the value in the patch is null, the member is removed.
changed-null : (ms : List (List ℕ × Tree)) (key : List ℕ) (patch value : Tree) → kind_of patch ≡ Null → changed ms key patch value ≡ without key ms
changed-null ms key null value h = refl
changed-null ms key _ value h = cc

changed-put : (ms : List (List ℕ × Tree)) (key : List ℕ) (patch value : Tree) → kind_of patch ≢ Null
    → changed ms key patch value ≡ put ms key value
changed-put ms key null value h = absurd (h refl)
changed-put ms key _ value h = refl

-- The tree of a key's value is the tree of the value found, or null if the key is missing.
tree-or_null : (found : Option WellFormed) → (unwrap_or found null_value).tree ≡ unwrap_or (option_map tree_of found) null
tree-or_null None = refl
tree-or_null (Some v) = refl

beside : (ps : List (List ℕ × WellFormed)) (key : List ℕ)
    → (unwrap_or (lookup key ps) null_value).tree ≡ unwrap_or (lookup key (members_in (object_tree ps))) null
beside ps key = tree-or_null (lookup key ps) ∙ ap (λ o. unwrap_or o null) (value_at ps key)

-- Removing an entry at a later index keeps the first entry.
out_behind : (m : List ℕ × Tree) (ms : List (List ℕ × Tree)) (found : Option ℕ)
    → out_at shift_out (option_map (λ i. i + 1) found) (m ∷ ms) ≡ m ∷ out_at shift_out found ms
out_behind m ms None = refl
out_behind m ms (Some i) = let next : i + 1 ≡ suc i = omega arith in ap (shift_out (m ∷ ms)) next

shifted-without : (ms : List (List ℕ × Tree)) (key : List ℕ) → IsDistinct (keys_of ms) → shift_out_key key ms ≡ without key ms
shifted-without [] key d = refl
shifted-without (m ∷ ms) key d = elim (same_key m.0 key) [
  | inl s ↦ simp s.0 (sym (without-lacks ms key (subst (λ k. Lacks k (keys_of ms)) s.1 d.0)))
  | inr n ↦ simp n.0 (out_behind m ms (at ms key) ∙ ap (λ rest. m ∷ rest) (shifted-without ms key d.1))
]

-- If the first member of a patch is null and its key was removed, merging the rest of the patch has
-- the same result as merging the complete patch.
pub one_removed : (ps new rest : List (List ℕ × WellFormed)) (key : List ℕ) (v : WellFormed) → kind_of v.tree ≡ Null
    → IsDistinct (keys_of ps) → new ≡ shift_out_key key ps
    → merged_into (members_in (object_tree new)) (pair_trees rest)
    ≡ merged_into (members_in (object_tree ps)) (pair_trees ((key, v) ∷ rest))
one_removed ps new rest key v is_null d left =
    let ms = members_in (object_tree ps) in
    let distinct : IsDistinct (keys_of ms) = subst IsDistinct (sym (ap keys_of (members_list-pairs ps) ∙ keys_of-trees ps)) d in
    ap (λ ms. merged_into ms (pair_trees rest))
    (ap (λ qs. members_in (object_tree qs)) left ∙ shift_out-members ps key ∙ shifted-without ms key distinct
    ∙ sym (changed-null ms key v.tree (merged (unwrap_or (lookup key ms) null) v.tree) is_null))

-- If the first member of a patch is not null and its result was put, merging the rest of the patch
-- has the same result as merging the complete patch.
pub one_put : (ps new rest : List (List ℕ × WellFormed)) (key : List ℕ) (v old w : WellFormed) → kind_of v.tree ≢ Null
    → old ≡ unwrap_or (lookup key ps) null_value → w.tree ≡ merged old.tree v.tree → new ≡ put ps key w
    → merged_into (members_in (object_tree new)) (pair_trees rest)
    ≡ merged_into (members_in (object_tree ps)) (pair_trees ((key, v) ∷ rest))
one_put ps new rest key v old w not_null was made left =
    let ms = members_in (object_tree ps) in
    let there : old.tree ≡ unwrap_or (lookup key ms) null = ap tree_of was ∙ beside ps key in
    ap (λ ms. merged_into ms (pair_trees rest))
    (ap (λ qs. members_in (object_tree qs)) left ∙ put-members ps key w ∙ ap (put ms key) (made ∙ ap (λ t. merged t v.tree) there)
    ∙ sym (changed-put ms key v.tree (merged (unwrap_or (lookup key ms) null) v.tree) not_null))
