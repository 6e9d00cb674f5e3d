-- A `serde_json` array or object means an array or object tree if its parts mean the parts of the
-- tree. If no `serde_json` value means some part, no `serde_json` value means the tree.
use Rattle.std.proofs.Common.{◌≡◌, ◌≢◌, ℕ, List, [], ◌∷◌, ◌++◌, suc, refl, ap, sym, subst, ◌∙◌, inl, inr}
use Rattle.std.specs.declared.cmp.Ordering.TheVariants.{Less, Equal, Greater}
use Rattle.std.specs.Cmp.Lexicographic.{slice_cmp}
use Rattle.std.specs.Ordering.{nat_cmp, match_ordering}
use Rattle.std.proofs.lemmas.Map.Lookups.{exact_bytes}
use Rattle.serde_json.specs.Data as serde
use Rattle.serde_json.specs.Data.{Data}
use Rattle.serde_json.specs.View.{view, items_view}
use Rattle.serde_json.specs.declared.value.Value.{Value}
use Rattle.ijson_table.specs.Store.{keys_of, Lacks, IsDistinct}
use Rattle.ijson_value.specs.Same.{Same, SameEach, SameIn, Has}
use Rattle.ijson_value.specs.Tree.{Tree, array, object, Items, no_items, item, Members, no_members}
use Rattle.ijson_value.specs.Tree.{member, members_len, member_keys}
use Rattle.ijson_value.specs.Values.{array_tree, object_tree}
use Rattle.ijson_value.specs.WellFormed.{WellFormed, IsWellFormed, AreWellFormed, HaveWellFormed, item_trees, pair_trees}
use Rattle.ijson_value.specs.laws.HoldsWellFormed.{member_keys-pairs}
use Rattle.ijson_value.specs.laws.SameLaws.{same_symm, partner, member_distinct, lacks_it}
use Rattle.ijson_convert.proofs.pairs.PairTrees.{has_more, has_middle, len_last}
use Rattle.ijson_convert.proofs.reading.MembersRead.{widened}
use Rattle.ijson_convert.specs.SerdeTree.{SerdeTree, SerdeItems, SerdeMembers, SerdeMeans, NoSerdeMeans}

-- If two lists mean the same and `v` means `u`, the lists with `v` and `u` appended mean the same.
push_item : (vs : List Value) (us : List WellFormed) (v : Value) (u : WellFormed) (ts : Items) → AreWellFormed ts
    → SerdeItems (items_view vs) ts → SameEach ts (item_trees us) → SerdeMeans (view v) u.tree
    → (rs : Items) × AreWellFormed rs × SerdeItems (items_view (vs ++ v ∷ [])) rs
    × SameEach rs (item_trees (us ++ u ∷ []))
push_item [] [] v u no_items w h s m = (item m.0 no_items, (m.1, tt), (m.2, tt), (m.3, tt))
push_item [] (y ∷ us) v u no_items w h s m = absurd s
push_item [] us v u (item t ts) w h s m = absurd h
push_item (x ∷ vs) us v u no_items w h s m = absurd h
push_item (x ∷ vs) [] v u (item t ts) w h s m = absurd s
push_item (x ∷ vs) (y ∷ us) v u (item t ts) w h s m =
    let r = push_item vs us v u ts w.1 h.1 s.1 m in
    (item t r.0, (w.0, r.1), (h.0, r.2), (s.0, r.3))

-- If two arrays mean the same and `v` means `u`, the arrays with `v` and `u` appended mean the
-- same.
pub array_means : (vs : List Value) (us : List WellFormed) (v : Value) (u : WellFormed)
    → SerdeMeans (serde.array (items_view vs)) (array_tree us) → SerdeMeans (view v) u.tree
    → SerdeMeans (serde.array (items_view (vs ++ v ∷ []))) (array_tree (us ++ u ∷ []))
array_means vs us v u (array ts, w, h, s) m = let r = push_item vs us v u ts w h s m in (array r.0, r.1, r.2, r.3)
array_means vs us v u (t, w, h, s) m = absurd h

-- If no `serde_json` value means `u`, no `serde_json` list means a list that contains `u`.
items_unmeant : (before : List WellFormed) (u : WellFormed) (left : List WellFormed) → NoSerdeMeans u.tree
    → (ds : serde.Items) (ts : Items) → AreWellFormed ts → SerdeItems ds ts
    → SameEach ts (item_trees (before ++ u ∷ left)) → ⊥
items_unmeant [] u left never (serde.item d ds) (item t ts) w h s = never d (t, w.0, h.0, s.0)
items_unmeant (x ∷ before) u left never (serde.item d ds) (item t ts) w h s =
    items_unmeant before u left never ds ts w.1 h.1 s.1
items_unmeant before u left never serde.no_items (item t ts) w h s = h
items_unmeant [] u left never ds no_items w h s = s
items_unmeant (x ∷ before) u left never ds no_items w h s = s

-- If no `serde_json` value means `u`, no `serde_json` value means an array that contains `u`.
pub array_unmeant : (before : List WellFormed) (u : WellFormed) (left : List WellFormed) → NoSerdeMeans u.tree
    → NoSerdeMeans (array_tree (before ++ u ∷ left))
array_unmeant before u left never (serde.array ds) (array ts, w, h, s) = items_unmeant before u left never ds ts w h s
array_unmeant before u left never d (array ts, w, h, s) = h
array_unmeant before u left never d (t, w, h, s) = s

-- In this module, `new` includes all members of `old`, and a member with the key `k` that means the
-- same as `t`.
module _ (old new : Members) (grows : (j : List ℕ) (u : Tree) → Has j u old → Has j u new) (k : List ℕ) (d : Data) (t : Tree)
    (partner : (u : Tree) × Has k u new × Same t u) where
  record Added (ps qs : Members) : Type 0 where
    len : members_len qs ≡ suc (members_len ps)
    same : SameIn ps old → SameIn qs new
    lacks : (j : List ℕ) → j ≢ k → Lacks j (member_keys ps) → Lacks j (member_keys qs)
    distinct : Lacks k (member_keys ps) → IsDistinct (member_keys ps) → IsDistinct (member_keys qs)
    well : IsWellFormed t → HaveWellFormed ps → HaveWellFormed qs

  -- Prepending the member with the key `k` and the tree `t` to `ps` satisfies `Added`.
  added_first : (ps : Members) → Added ps (member k t ps)
  added_first ps = record {
    len = refl;
    same = λ s. (partner, widened old new grows ps s);
    lacks = λ j ne l. (ne, l);
    distinct = λ l d. (l, d);
    well = λ w v. (w, v);
  }

  -- If `Added ps qs` holds, it also holds after the same member is prepended to `ps` and `qs`.
  added_later : (ps qs : Members) (i : List ℕ) (v : Tree) → Added ps qs → Added (member i v ps) (member i v qs)
  added_later ps qs i v a = record {
    len = ap suc a.len;
    same = λ s. ((s.0.0, grows i s.0.0 s.0.1, s.0.2), a.same s.1);
    lacks = λ j ne l. (l.0, a.lacks j ne l.1);
    distinct = λ l d. (a.lacks i (λ e. l.0 (sym e)) d.0, a.distinct l.1 d.1);
    well = λ w h. (h.0, a.well w h.1);
  }

  -- If `ms` has the trees `ps` and lacks `k`, `serde.put k d ms` has the trees `ps` with the member
  -- added.
  added : (ms : serde.Members) (ps : Members) → SerdeMembers ms ps → SerdeTree d t → Lacks k (member_keys ps)
      → (qs : Members) × SerdeMembers (serde.put k d ms) qs × Added ps qs
  added serde.no_members no_members h s l = (member k t no_members, (refl, s, tt), added_first no_members)
  added serde.no_members (member j u ps) h s l = absurd h
  added (serde.member i e ms) no_members h s l = absurd h
  added (serde.member i e ms) (member j u ps) h s l = elim (slice_cmp nat_cmp k i)
      as (λ o. slice_cmp nat_cmp k i ≡ o → (qs : Members) × SerdeMembers (match_ordering o (serde.member k d (serde.member i e ms))
      (serde.member i d ms) (serde.member i e (serde.put k d ms))) qs × Added (member j u ps) qs) [
        | Less ↦ λ is. (member k t (member j u ps), (refl, s, h), added_first (member j u ps))
        | Equal ↦ λ is. absurd (l.0 (exact_bytes k i is ∙ h.0))
        | Greater ↦ λ is.
            let r = added ms ps h.2 s l.1 in
            (member j u r.0, (h.0, h.1, r.1), added_later ps r.0 j u r.2)
      ] refl

-- If `qs` lacks a key, and each member of `ps` means the same as a member of `qs`, then `ps` lacks
-- the key.
lacks_inside : (k : List ℕ) (ps qs : Members) → SameIn ps qs → Lacks k (member_keys qs) → Lacks k (member_keys ps)
lacks_inside k no_members qs s l = tt
lacks_inside k (member j t ps) qs s l =
    (λ e. lacks_it k s.0.0 qs l (subst (λ i. Has i s.0.0 qs) (sym e) s.0.1), lacks_inside k ps qs s.1 l)

-- If two objects mean the same and `d` means the value of `p`, the objects with the new entry `p`
-- mean the same.
pub object_means : (es : serde.Members) (done : List (List ℕ × WellFormed)) (d : Data) (p : List ℕ × WellFormed)
    → Lacks p.0 (keys_of done) → SerdeMeans d p.1.tree → SerdeMeans (serde.object es) (object_tree done)
    → SerdeMeans (serde.object (serde.put p.0 d es)) (object_tree (done ++ p ∷ []))
object_means es done d p lacks m (object ps, w, h, s) =
    let old = pair_trees done in
    let without = lacks_inside p.0 ps old s.1 (subst (Lacks p.0) (sym (member_keys-pairs done)) lacks) in
    let a = added old (pair_trees (done ++ p ∷ [])) (has_more done (p ∷ [])) p.0 d m.0 (p.1.tree, has_middle done p [], m.3) es ps h m.2
    without in
    (object a.0, (a.2.distinct without w.0, a.2.well m.1 w.1), a.1, (a.2.len ∙ ap suc s.0 ∙ sym (len_last done p), a.2.same s.1))
object_means es done d p lacks m (t, w, h, s) = absurd h

-- If an object has a `serde_json` value, the tree of each member is the tree of a `serde_json`
-- value.
child : (ms : serde.Members) (ps : Members) (k : List ℕ) (t : Tree) → SerdeMembers ms ps → Has k t ps
    → (d : Data) × SerdeTree d t
child serde.no_members no_members k t h q = absurd q
child serde.no_members (member j u ps) k t h q = absurd h
child (serde.member i d ms) no_members k t h q = absurd q
child (serde.member i d ms) (member j u ps) k t h q = elim q [
  | inl e ↦ (d, subst (SerdeTree d) (sym e.1) h.1)
  | inr n ↦ child ms ps k t h.2 n
]

-- If no `serde_json` value means `u`, no `serde_json` value means an object with a member `u`.
pub object_unmeant : (qs : Members) → IsWellFormed (object qs) → (k : List ℕ) (u : Tree) → IsWellFormed u → Has k u qs → NoSerdeMeans u
    → NoSerdeMeans (object qs)
object_unmeant qs well k u is has never (serde.object ms) (object ps, w, h, s) =
    let back = same_symm (object ps) (object qs) w well s in
    let p = partner qs ps k u has back.1 in
    let there = member_distinct ps w.1 k p.0 p.1 in
    let d = child ms ps k p.0 h p.1 in
    never d.0 (p.0, there, d.1, same_symm u p.0 is there p.2)
object_unmeant qs well k u is has never d (object ps, w, h, s) = h
object_unmeant qs well k u is has never d (t, w, h, s) = s
