-- After each member that is read into a hash map, the map means the same as the members read so
-- far. The order of the map may differ from the order of the members.
use Rattle.std.proofs.Common.{◌≡◌, ◌++◌, ℕ, suc, List, [], ◌∷◌, length, cond, refl, ap, sym, subst, ◌∙◌, inl, inr, false, arith, IsPermutation}
use mathlib.Core.Bool.{true≢false}
use Rattle.std.specs.HashMap.{HashMap, PutsEntry, get, values}
use Rattle.std.specs.Map.{lookup}
use Rattle.std.specs.Prelude.{All, Option, Some, None, Result, Ok, Err, IfOk, is_err, String, string_bytes, string_eq}
use Rattle.std.specs.declared.alloc.Global.{Global}
use Rattle.std.proofs.lemmas.List.Elements.{All-nil, All-cons, All-head, All-tail}
use Rattle.std.proofs.lemmas.List.Sorted.{All-permutation, length_permutation}
use Rattle.std.proofs.lemmas.Map.Views.{All-values-PutsEntry}
use Rattle.ijson_table.specs.Store.{Lacks, keys_of}
use Rattle.ijson_table.proofs.pairs.KeyPositions.{same_key}
use Rattle.ijson_value.specs.Same.{Same, SameIn, Has}
use Rattle.ijson_value.specs.Tree.{Tree, Members, members_len}
use Rattle.ijson_value.specs.Values.{object_tree}
use Rattle.ijson_value.specs.WellFormed.{WellFormed, pair_trees}
use Rattle.ijson_convert.specs.MapTree.{map_tree}
use Rattle.ijson_convert.proofs.pairs.PairTrees.{has_more, has_middle, len_last}
use Rattle.ijson_convert.proofs.reading.MembersRead.{map_members, no_member, widened}

module _ {X : Type 0} (tree : X → Tree) where
  -- Holds if `qs` has a member with the key of `e` and a value that means the same.
  abbrev IsAmong : Members → String Global × X → Type 0
  IsAmong qs e = (u : Tree) × Has (string_bytes e.0) u qs × Same (tree e.1) u

  -- If every map entry means the same as a member in `qs`, `IsAmong qs` holds for each entry.
  each_among : (qs : Members) (es : List (String Global × X)) → SameIn (map_members tree es) qs → All (IsAmong qs) es
  each_among qs [] s = All-nil (IsAmong qs)
  each_among qs (e ∷ es) s = All-cons (IsAmong qs) e es s.0 (each_among qs es s.1)

  among_each : (qs : Members) (es : List (String Global × X)) → All (IsAmong qs) es → SameIn (map_members tree es) qs
  among_each qs [] a = tt
  among_each qs (e ∷ es) a =
      (All-head (IsAmong qs) e es a, among_each qs es (All-tail (IsAmong qs) e es a))

  members_count : (es : List (String Global × X)) → members_len (map_members tree es) ≡ length es
  members_count [] = refl
  members_count (e ∷ es) = ap suc (members_count es)

  -- If `qs` lacks a key and every map entry means the same as a member in `qs`, a lookup of the key
  -- fails.
  missing : (qs : Members) (key : String Global) → ((u : Tree) → Has (string_bytes key) u qs → ⊥)
      → (es : List (String Global × X)) → SameIn (map_members tree es) qs → (u : X) → Some u ≡ lookup (string_eq key) es → ⊥
  missing qs key lacks [] s u is = cc
  missing qs key lacks (e ∷ es) s u is = elim (same_key (string_bytes key) (string_bytes e.0)) [
    | inl same ↦ lacks s.0.0 (subst (λ j. Has j s.0.0 qs) (sym same.1) s.0.1)
    | inr other ↦ missing qs key lacks es s.1 u (is ∙ ap (λ b. cond b (Some e.1) (lookup (string_eq key) es)) other.0)
  ]

  module _ {S : Type 0} (m n : HashMap (String Global) X S) (done : List (List ℕ × WellFormed)) (key : String Global) (k : List ℕ)
      (x : X) (v : WellFormed) (is : string_bytes key ≡ k) (lacks : Lacks k (keys_of done))
      (s : Same (map_tree tree m.entries) (object_tree done)) (same : Same (tree x) v.tree) where
    abbrev grown : Members
    grown = pair_trees (done ++ (k, v) ∷ [])

    one_more : IsPermutation ((key, x) ∷ m.entries) n.entries → Same (map_tree tree n.entries) (object_tree (done ++ (k, v) ∷ []))
    one_more moved =
        let more = widened (pair_trees done) grown (has_more done ((k, v) ∷ [])) (map_members tree m.entries) s.1 in
        let here : IsAmong grown (key, x) = (v.tree, subst (λ j. Has j v.tree grown) (sym is) (has_middle done (k, v) []), same) in
        let each = All-cons (IsAmong grown) (key, x) m.entries here (each_among grown m.entries more) in
        let counted = length_permutation ((key, x) ∷ m.entries) n.entries moved in
        let old = members_count m.entries in let new = members_count n.entries in let before = s.0 in let after = len_last done (k, v) in (
          omega (arith, counted, old, new, before, after),
          among_each grown n.entries (All-permutation (IsAmong grown) ((key, x) ∷ m.entries) n.entries moved each),
        )

    put_at : (old : Option X) → old ≡ get string_eq m key → PutsEntry string_eq m n key x old
        → Same (map_tree tree n.entries) (object_tree (done ++ (k, v) ∷ []))
    put_at None found puts = one_more puts
    put_at (Some u) found puts =
        absurd (missing (pair_trees done) key (λ w h. no_member done key k w is lacks h) m.entries s.1 u found)

    -- If `m` means the same as the members `done`, then after the insertion of a new key the map
    -- `n` means the same as `done` with this key's member.
    pub put_same : {E : Type 0} (r : Result (Option X) E) → is_err r ≡ false → IfOk r (λ old. old ≡ get string_eq m key)
        → IfOk r (PutsEntry string_eq m n key x) → Same (map_tree tree n.entries) (object_tree (done ++ (k, v) ∷ []))
    put_same (Ok old) ok found puts = put_at old found puts
    put_same (Err e) ok found puts = absurd (true≢false ok)

-- If `P` holds for the values of a map and for the inserted value, `P` holds for all values
-- afterwards.
pub put_all : {X S E : Type 0} (P : X → Type 0) (m n : HashMap (String Global) X S) (key : String Global) (x : X)
    (r : Result (Option X) E) → is_err r ≡ false → IfOk r (PutsEntry string_eq m n key x) → All P (values m) → P x → All P (values n)
put_all P m n key x (Ok old) ok puts a p = All-values-PutsEntry string_eq P m n key x old puts a p
put_all P m n key x (Err e) ok puts a p = absurd (true≢false ok)
