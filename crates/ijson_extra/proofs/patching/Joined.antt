-- The object made from the joined keys of the target and of the patch is the target merged with the
-- patch.
use Rattle.std.proofs.Common.{◌≡◌, ℕ, suc, ◌≤◌, inl, inr, arith, List, [], ◌∷◌, ◌++◌, length, drop, get_or, Option, Some, None, true, false}
use Rattle.std.proofs.Common.{refl, sym, ap, subst, ◌∙◌, cond, map, append_assoc, Bor}
use Rattle.std.specs.Option.{unwrap_or}
use Rattle.std.specs.Prelude.{bytes_eq, max}
use Rattle.std.specs.Cmp.Lexicographic.{bytes_decides}
use Rattle.std.proofs.lemmas.List.{map-append}
use Rattle.ijson_table.specs.Store.{keys_of, lookup, put, put_each, IsDistinct, Lacks}
use Rattle.ijson_table.proofs.pairs.KeyPositions.{same_key}
use Rattle.ijson_table.proofs.pairs.PutEach.{put_each-behind, put_each-distinct, put_each-new}
use Rattle.ijson_value.specs.Tree.{Tree, null, object, depth, members_depth, members_of, members_list}
use Rattle.ijson_value.specs.Values.{object_tree}
use Rattle.ijson_value.specs.WellFormed.{WellFormed, pair_trees}
use Rattle.ijson_value.specs.laws.Lookups.{lookup-put}
use Rattle.ijson_value.specs.laws.MemberTrees.{pair_tree, keys_of-trees}
use Rattle.ijson_extra.specs.MergePatch.{merged, merged_into, changed, without}
use Rattle.ijson_extra.specs.private.Joined.{after, change_of, shown, unchanged, all_changed, joined, old_trees}

abbrev pub Keys : Type 0
Keys = List (List ℕ × Option Tree)

abbrev Made : Type 0
Made = List (List ℕ × Tree)

-- The member of `key`, if it has a value, followed by `rest`.
abbrev pub before : List ℕ → Option Tree → Made → Made
before key None rest = rest
before key (Some t) rest = (key, t) ∷ rest

-- The members made from keys with changes and from the old values. A missing old value counts as
-- null.
abbrev pub made : Keys → List Tree → Made
made [] olds = []
made (k ∷ ks) olds = before k.0 (after (get_or olds 0 null) k.1) (made ks (drop 1 olds))

-- If the keys lack `key`, so do the members made from them.
made-lacks : (ks : Keys) (olds : List Tree) (key : List ℕ) → Lacks key (keys_of ks) → Lacks key (keys_of (made ks olds))
made-lacks [] olds key lacks = tt
made-lacks (k ∷ ks) olds key lacks =
    elim (after (get_or olds 0 null) k.1) as (λ o. Lacks key (keys_of (before k.0 o (made ks (drop 1 olds))))) [
      | None ↦ made-lacks ks (drop 1 olds) key lacks.1
      | Some t ↦ (lacks.0, made-lacks ks (drop 1 olds) key lacks.1)
    ]

pub made-distinct : (ks : Keys) (olds : List Tree) → IsDistinct (keys_of ks) → IsDistinct (keys_of (made ks olds))
made-distinct [] olds d = tt
made-distinct (k ∷ ks) olds d =
    elim (after (get_or olds 0 null) k.1) as (λ o. IsDistinct (keys_of (before k.0 o (made ks (drop 1 olds))))) [
      | None ↦ made-distinct ks (drop 1 olds) d.1
      | Some t ↦ (made-lacks ks (drop 1 olds) k.0 d.0, made-distinct ks (drop 1 olds) d.1)
    ]

-- The members after one member of a patch was applied, as in `merged_into`.
abbrev applied : Made → List ℕ → Tree → Made
applied ms key patch = changed ms key patch (merged (unwrap_or (lookup key ms) null) patch)

-- Applying a member of a patch to members does not change a first member with another key.
passes : (k : List ℕ) (o : Option Tree) (rest : Made) (key : List ℕ) (patch : Tree) → bytes_eq k key ≡ false → bytes_eq key k ≡ false
    → applied (before k o rest) key patch ≡ before k o (applied rest key patch)
passes k None rest key patch off away = refl
passes k (Some t) rest key null off away = simp off
passes k (Some t) rest key patch off away = simp (off, away)

-- Removing a missing key does not change the members.
pub without-lacks : (ms : Made) (key : List ℕ) → Lacks key (keys_of ms) → without key ms ≡ ms
without-lacks [] key lacks = refl
without-lacks (m ∷ ms) key lacks = elim (same_key m.0 key) [
  | inl s ↦ absurd (lacks.0 (sym s.1))
  | inr d ↦ simp (d.0, without-lacks ms key lacks.1)
]

-- If the first member has the key of the patch's member, applying the change replaces its value.
changed_here : (k key : List ℕ) (old : Tree) (rest : Made) (patch : Tree) → bytes_eq k key ≡ true → bytes_eq key k ≡ true
    → Lacks key (keys_of rest) → before k (after old (Some patch)) rest ≡ applied ((k, old) ∷ rest) key patch
changed_here k key old rest null here found lacks = simp here (sym (without-lacks rest key lacks))
changed_here k key old rest patch here found lacks = simp (here, found)

fewer : (olds : List Tree) (n : ℕ) → length olds ≤ suc n → length (drop 1 olds) ≤ n
fewer [] n fits = omega arith
fewer (old ∷ olds) n fits = omega arith

-- Adding a key with its change to the keys has the same effect as applying the change to the
-- members made from these keys.
made-put : (ks : Keys) (olds : List Tree) (key : List ℕ) (patch : Tree) → IsDistinct (keys_of ks)
    → unwrap_or (lookup key ks) None ≡ None → length olds ≤ length ks
    → made (put ks key (Some patch)) olds ≡ applied (made ks olds) key patch
made-put [] [] key null d free fits = refl
made-put [] [] key patch d free fits = refl
made-put [] (old ∷ olds) key patch d free fits = absurd (omega arith)
made-put (k ∷ ks) olds key patch d free fits =
    let old = get_or olds 0 null in
    let rest = made ks (drop 1 olds) in
    elim (same_key k.0 key) [
      | inl s ↦
          let found = (bytes_decides key k.0).1 (sym s.1) in
          let none : k.1 ≡ None = simp found at free in
          simp s.0 (changed_here k.0 key old rest patch s.0 found
          (made-lacks ks (drop 1 olds) key (subst (λ l. Lacks l (keys_of ks)) s.1 d.0))
          ∙ ap (λ o. applied (before k.0 (after old o) rest) key patch) (sym none))
      | inr n ↦
          let away : bytes_eq key k.0 ≡ false = grind (arith, same_key key k.0, n.1) in
          simp n.0 (ap (before k.0 (after old k.1)) (made-put ks (drop 1 olds) key patch d.1 (simp away at free) (fewer olds (length ks) fits))
          ∙ sym (passes k.0 (after old k.1) rest key patch n.0 away))
    ]

-- Holds if the keys of the list do not have a change in `ks`.
abbrev Free : Keys → List (List ℕ) → Type 0
Free ks [] = Unit {0}
Free ks (key ∷ keys) = (unwrap_or (lookup key ks) None ≡ None) × Free ks keys

free-put : (ks : Keys) (key : List ℕ) (change : Option Tree) (keys : List (List ℕ)) → Lacks key keys → Free ks keys
    → Free (put ks key change) keys
free-put ks key change [] lacks free = tt
free-put ks key change (k ∷ keys) lacks free = (
  elim (same_key k key) [
    | inl s ↦ absurd (lacks.0 (sym s.1))
    | inr n ↦ ap (λ o. unwrap_or o None) (lookup-put ks key change k)
        ∙ ap (λ b. unwrap_or (cond b (Some change) (lookup k ks)) None) n.0 ∙ free.0
  ],
  free-put ks key change keys lacks.1 free.1,
)

has_none : (ks : List (List ℕ)) (key : List ℕ) → unwrap_or (lookup key (unchanged ks)) None ≡ None
has_none [] key = refl
has_none (k ∷ ks) key = elim (bytes_eq key k) as (λ b. unwrap_or (cond b (Some None) (lookup key (unchanged ks))) None ≡ None) [
  | true ↦ refl
  | false ↦ has_none ks key
]

all_free : (ks keys : List (List ℕ)) → Free (unchanged ks) keys
all_free ks [] = tt
all_free ks (key ∷ keys) = (has_none ks key, all_free ks keys)

-- Putting a key does not reduce the number of keys.
no_fewer : (ks : Keys) (key : List ℕ) (change : Option Tree) → length ks ≤ length (put ks key change)
no_fewer [] key change = omega arith
no_fewer (k ∷ ks) key change = elim (same_key k.0 key) [
  | inl s ↦ simp s.0 (omega arith)
  | inr n ↦ simp n.0 (omega (arith, no_fewer ks key change))
]

-- Adding all changes of a patch to the keys has the same effect as merging the patch into the
-- members.
made-put_each : (ks : Keys) (olds : List Tree) (ps : List (List ℕ × WellFormed)) → IsDistinct (keys_of ks) → IsDistinct (keys_of ps)
    → Free ks (keys_of ps) → length olds ≤ length ks
    → made (put_each ks (all_changed ps)) olds ≡ merged_into (made ks olds) (pair_trees ps)
made-put_each ks olds [] d e free fits = refl
made-put_each ks olds (p ∷ ps) d e free fits =
    let change : Option Tree = Some p.1.tree in
    made-put_each (put ks p.0 change) olds ps (put_each-distinct ks ((p.0, change) ∷ []) d) e.1
    (free-put ks p.0 change (keys_of ps) e.0 free.1) (omega (arith, fits, no_fewer ks p.0 change))
    ∙ ap (λ ms. merged_into ms (pair_trees ps)) (made-put ks olds p.0 p.1.tree d free.0 fits)

keys-unchanged : (ks : List (List ℕ)) → keys_of (unchanged ks) ≡ ks
keys-unchanged [] = refl
keys-unchanged (k ∷ ks) = ap (λ ls. k ∷ ls) (keys-unchanged ks)

-- If no key has a change, all members are kept.
made-unchanged : (ps : List (List ℕ × WellFormed)) → made (unchanged (keys_of ps)) (old_trees ps) ≡ members_list (pair_trees ps)
made-unchanged [] = refl
made-unchanged (p ∷ ps) = ap (λ ms. (p.0, p.1.tree) ∷ ms) (made-unchanged ps)

as_many : (ps : List (List ℕ × WellFormed)) → length (old_trees ps) ≡ length (unchanged (keys_of ps))
as_many [] = refl
as_many (p ∷ ps) = ap suc (as_many ps)

module _ (pairs changes : List (List ℕ × WellFormed)) (distinct : IsDistinct (keys_of pairs)) where
  abbrev first : Keys
  first = unchanged (keys_of pairs)

  first-distinct : IsDistinct (keys_of first)
  first-distinct = subst IsDistinct (sym (keys-unchanged (keys_of pairs))) distinct

  pub joined-distinct : IsDistinct (keys_of (made (joined pairs changes) (old_trees pairs)))
  joined-distinct = made-distinct (joined pairs changes) (old_trees pairs) (put_each-distinct first (all_changed changes) first-distinct)

  -- The object made from the joined keys is the target merged with the patch.
  pub made-joined : IsDistinct (keys_of changes)
      → object (members_of (made (joined pairs changes) (old_trees pairs))) ≡ merged (object_tree pairs) (object_tree changes)
  made-joined distinct_changes = ap (λ ms. object (members_of ms))
      (made-put_each first (old_trees pairs) changes first-distinct distinct_changes (all_free (keys_of pairs) (keys_of changes))
      (omega (arith, as_many pairs))
      ∙ ap (λ ms. merged_into ms (pair_trees changes)) (made-unchanged pairs))

  -- If `items` stores the members made from the joined keys, the object of `items` is the target
  -- merged with the patch.
  pub built : (items : List (List ℕ × WellFormed)) → IsDistinct (keys_of changes)
      → map pair_tree items ≡ made (joined pairs changes) (old_trees pairs)
      → object_tree (put_each [] items) ≡ merged (object_tree pairs) (object_tree changes)
  built items distinct_changes whole =
      let apart = subst IsDistinct (ap keys_of (sym whole) ∙ keys_of-trees items) joined-distinct in
      ap object_tree (put_each-new [] items apart) ∙ ap (λ ms. object (members_of ms)) whole ∙ made-joined distinct_changes

-- Putting a change and then replacing each change by its tree has the same result as putting the
-- tree of the change.
put-shown : (ks : List (List ℕ × Option (Bor WellFormed))) (key : List ℕ) (change : Option (Bor WellFormed))
    → map shown (put ks key change) ≡ put (map shown ks) key (change_of change)
put-shown [] key change = refl
put-shown (k ∷ ks) key change = elim (same_key k.0 key) [
  | inl s ↦ simp s.0
  | inr n ↦ simp (n.0, put-shown ks key change)
]

put_each-shown : (ks more : List (List ℕ × Option (Bor WellFormed)))
    → map shown (put_each ks more) ≡ put_each (map shown ks) (map shown more)
put_each-shown ks [] = refl
put_each-shown ks (k ∷ more) = put_each-shown (put ks k.0 k.1) more ∙ ap (λ ls. put_each ls (map shown more)) (put-shown ks k.0 k.1)

-- A table built from the keys of the target and then of the patch contains the joined keys.
pub joined-shown : (table items : List (List ℕ × Option (Bor WellFormed))) (pairs changes : List (List ℕ × WellFormed))
    → IsDistinct (keys_of pairs) → table ≡ put_each [] items
    → map shown items ≡ unchanged (keys_of pairs) ++ all_changed changes → map shown table ≡ joined pairs changes
joined-shown table items pairs changes d is are =
    ap (map shown) is ∙ put_each-shown [] items ∙ ap (put_each []) are
    ∙ put_each-behind (unchanged (keys_of pairs)) (all_changed changes) (first-distinct pairs changes d)

-- If the next key is appended, the keys listed so far, followed by the remaining keys, are all
-- keys.
pub one_listed : (items new : List (List ℕ × Option (Bor WellFormed))) (k : List ℕ × Option (Bor WellFormed)) (rest whole : Keys)
    → new ≡ items ++ k ∷ [] → map shown items ++ shown k ∷ rest ≡ whole → map shown new ++ rest ≡ whole
one_listed items new k rest whole pushed was =
    ap (λ ks. map shown ks ++ rest) pushed ∙ ap (λ ks. ks ++ rest) (map-append shown items (k ∷ []))
    ∙ append_assoc (map shown items) (shown k ∷ []) rest ∙ was

-- The depth of a change, or 0 for a key without a change.
abbrev pub change_depth : Option Tree → ℕ
change_depth None = 0
change_depth (Some t) = depth t

abbrev pub changes_depth : Keys → ℕ
changes_depth [] = 0
changes_depth (k ∷ ks) = max (change_depth k.1) (changes_depth ks)

changes_depth-put : (ks : Keys) (key : List ℕ) (change : Option Tree)
    → changes_depth (put ks key change) ≤ max (changes_depth ks) (change_depth change)
changes_depth-put [] key change = omega arith
changes_depth-put (k ∷ ks) key change = elim (same_key k.0 key) [
  | inl s ↦ simp s.0 (omega arith)
  | inr n ↦ simp n.0 (omega (arith, changes_depth-put ks key change))
]

changes_depth-put_each : (ks : Keys) (ps : List (List ℕ × WellFormed))
    → changes_depth (put_each ks (all_changed ps)) ≤ max (changes_depth ks) (members_depth (pair_trees ps))
changes_depth-put_each ks [] = omega arith
changes_depth-put_each ks (p ∷ ps) =
    omega (arith, changes_depth-put_each (put ks p.0 (Some p.1.tree)) ps, changes_depth-put ks p.0 (Some p.1.tree))

changes_depth-unchanged : (ks : List (List ℕ)) → changes_depth (unchanged ks) ≡ 0
changes_depth-unchanged [] = refl
changes_depth-unchanged (k ∷ ks) = omega (arith, changes_depth-unchanged ks)

-- The changes of the joined keys are at most as deep as the members of the patch.
pub changes_depth-joined : (pairs changes : List (List ℕ × WellFormed))
    → changes_depth (joined pairs changes) ≤ members_depth (pair_trees changes)
changes_depth-joined pairs changes = omega (arith, changes_depth-put_each (unchanged (keys_of pairs)) changes, changes_depth-unchanged (keys_of pairs))
