-- Arrays and objects are read like any `Listing`: arrays by elements, objects by members.
use Rattle.std.proofs.Common.{◌≡◌, ℕ, suc, ◌+◌, Bool, List, [], ◌∷◌, ◌++◌, refl, sym, ap, ap₂, subst, ◌∙◌, arith, inl, inr}
use Rattle.std.specs.Prelude.{◌&&◌}
use Rattle.ijson_table.specs.Store.{put, put_each}
use Rattle.ijson_value.specs.laws.MemberTrees.{members_of-list}
use Rattle.ijson_value.specs.laws.TreeLookups.{items_list-of, items_of-list, members_list-of}
use Rattle.ijson_value.specs.Tree.{Tree, array, object, item, items_of, items_list, members_of, members_list}
use Rattle.ijson_value.specs.Tree.{depth}
use Rattle.ijson_value.specs.Order.{rank}
use Rattle.ijson_json.specs.Ranged.{is_ranged}
use Rattle.ijson_json.specs.Settled.{settled, settled_items, settled_pairs}
use Rattle.ijson_json.specs.Grammar.{IsSpace, IsValue}
use Rattle.ijson_json.specs.Inside.{EachWithComma, here, in_array, IsElement, IsMember, IsValuePlace}
use Rattle.ijson_json.specs.private.Reading.{Front}
use Rattle.ijson_json.specs.private.Contexts.{IsMemberPlace}
use Rattle.ijson_json.proofs.scanning.Prefixes.{tails}
use Rattle.ijson_json.proofs.grammar.FirstBytes.{kind_at}
use Rattle.ijson_json.proofs.grammar.CommaLists.{IsList}
use Rattle.ijson_json.proofs.grammar.Insides.{inside_append, inside_deeper}
use Rattle.ijson_json.proofs.grammar.OneTree.{value_same, pair_same, enclosed_with}
use Rattle.ijson_json.proofs.reading.Elements.{Listing}
use Rattle.ijson_json.proofs.grammar.ElementShapes.{items_shape, members_shape, spaced_pair_back, items_to, items_from, members_to, members_from}
use Rattle.ijson_json.proofs.reading.ElementLists.{deepest, all_ranged}

-- ---- a value that begins with a bracket

-- A value that begins with `[` is an array: its elements and `]` follow.
pub array_at : (t : Tree) (inside x : List ℕ) → Front (λ value. IsValue t value) (91 ∷ inside) x
    → (ts : List Tree) × (i : List ℕ) × (t ≡ array (items_of ts)) × IsList items_shape.Is ts i × (inside ≡ i ++ 93 ∷ x)
array_at (array is) inside x f =
    let (i, are, spelled) = f.holds in
    let behind = tails _ _ _ _ (f.is ∙ enclosed_with 91 93 f.front i x spelled) in
    (items_list is, i, ap array (sym (items_of-list is)), items_to is i are, behind)
array_at t inside x f = absurd (let k : 4 ≡ rank t = kind_at t 91 inside _ x refl f in omega (arith, k))

-- A value that begins with `{` is an object: its members and `}` follow.
pub object_at : (t : Tree) (inside x : List ℕ) → Front (λ value. IsValue t value) (123 ∷ inside) x
    → (ms : List (List ℕ × Tree)) × (i : List ℕ) × (t ≡ object (members_of ms)) × IsList members_shape.Is ms i × (inside ≡ i ++ 125 ∷ x)
object_at (object ms) inside x f =
    let (i, are, spelled) = f.holds in
    let behind = tails _ _ _ _ (f.is ∙ enclosed_with 123 125 f.front i x spelled) in
    (members_list ms, i, ap object (sym (members_of-list ms)), members_to ms i are, behind)
object_at t inside x f = absurd (let k : 5 ≡ rank t = kind_at t 123 inside _ x refl f in omega (arith, k))

-- An array is one level deeper than its deepest element.
pub array_depth : (ts : List Tree) → depth (array (items_of ts)) ≡ suc (deepest Tree items_shape ts)
array_depth [] = refl
array_depth (t ∷ ts) = omega (arith, array_depth ts)

-- The numbers of an array are within the limit if and only if the numbers of its elements are.
pub array_ranged : (ts : List Tree) → is_ranged (array (items_of ts)) ≡ all_ranged Tree items_shape ts
array_ranged [] = refl
array_ranged (t ∷ ts) = ap (λ (b : Bool). is_ranged t && b) (array_ranged ts)

-- An object is one level deeper than its deepest member.
pub object_depth : (ms : List (List ℕ × Tree)) → depth (object (members_of ms)) ≡ suc (deepest (List ℕ × Tree) members_shape ms)
object_depth [] = refl
object_depth (m ∷ ms) = omega (arith, object_depth ms)

-- The numbers of an object are within the limit if and only if the numbers of its members are.
pub object_ranged : (ms : List (List ℕ × Tree)) → is_ranged (object (members_of ms)) ≡ all_ranged (List ℕ × Tree) members_shape ms
object_ranged [] = refl
object_ranged (m ∷ ms) = ap (λ (b : Bool). is_ranged m.1 && b) (object_ranged ms)

-- An element may begin after `[`, elements with a comma after each, and white space.
pub array_placed : (opened : ℕ) (before parts space : List ℕ) → IsValuePlace opened before → EachWithComma IsElement parts → IsSpace space
    → IsValuePlace (opened + 1) (before ++ 91 ∷ (parts ++ space))
array_placed opened before parts space place each s =
    subst (λ (n : ℕ). IsValuePlace n (before ++ 91 ∷ (parts ++ space))) (omega arith)
    (inside_deeper (inside_append (91 ∷ (parts ++ space)) place (λ last gap. in_array last gap each (here s))))

-- A member may begin after `{`, members with a comma after each, and white space.
pub object_placed : (opened : ℕ) (before parts space : List ℕ) → IsValuePlace opened before → EachWithComma IsMember parts → IsSpace space
    → IsMemberPlace (opened + 1) (before ++ 123 ∷ (parts ++ space))
object_placed opened before parts space place each s =
    (opened, refl, inside_append (123 ∷ (parts ++ space)) place (λ last gap. (last, parts, space, gap, each, s, refl)))

-- The `Listing` of arrays: elements between `[` and `]` form an array.
abbrev pub arrays : Listing Tree items_shape
arrays = record {
  opening = 91;
  wrap = λ ts. array (items_of ts);
  closer = inl refl;
  same = value_same;
  builds = λ ts inside h. (inside, items_from (items_of ts) inside (rw (items_list-of ts) h), refl);
  only = array_at;
  depth_is = array_depth;
  ranged_is = array_ranged;
  ends = λ ts x. tt;
  IsPart = IsElement;
  part = λ t text s. (t, s);
  IsPlace = IsValuePlace;
  placed = array_placed;
}

-- The `Listing` of objects: members between `{` and `}` form an object.
abbrev pub objects : Listing (List ℕ × Tree) members_shape
objects = record {
  opening = 123;
  wrap = λ ms. object (members_of ms);
  closer = inr refl;
  same = λ m n. pair_same m n (value_same m.1 n.1);
  builds = λ ms inside h. (inside, members_from (members_of ms) inside (rw (members_list-of ms) h), refl);
  only = object_at;
  depth_is = object_depth;
  ranged_is = object_ranged;
  ends = λ ms x. tt;
  IsPart = IsMember;
  part = λ m text s. let (key, value, k, v, e) = spaced_pair_back m.0 m.1 text s in (key, value, (m.0, k), (m.1, v), e);
  IsPlace = IsMemberPlace;
  placed = object_placed;
}

-- ---- settling, which resolves duplicate keys

-- If settling `ts` yields `us`, settling `ts` and `t` yields `us` and the settled `t`.
pub settled-push : (ts : List Tree) (t : Tree) (us : List Tree) → items_of us ≡ settled_items (items_of ts)
    → items_of (us ++ settled t ∷ []) ≡ settled_items (items_of (ts ++ t ∷ []))
settled-push [] t [] e = refl
settled-push [] t (u ∷ us) e = absurd cc
settled-push (t' ∷ ts) t [] e = absurd cc
settled-push (t' ∷ ts) t (u ∷ us) e =
    let first : u ≡ settled t' = cc in
    let rest : items_of us ≡ settled_items (items_of ts) = cc in
    ap₂ item first (settled-push ts t us rest)

-- Putting the settled members of `ms ++ (k, t) ∷ []` puts the settled members of `ms`, then the
-- settled `t` at the key `k`.
put_each-push : (ms : List (List ℕ × Tree)) (k : List ℕ) (t : Tree) (into : List (List ℕ × Tree))
    → put_each into (settled_pairs (members_of (ms ++ (k, t) ∷ []))) ≡ put (put_each into (settled_pairs (members_of ms))) k (settled t)
put_each-push [] k t into = refl
put_each-push (m ∷ ms) k t into = put_each-push ms k t (put into m.0 (settled m.1))

-- If settling the members `ms` yields `now`, settling `ms` and `(k, t)` sets `k` in `now` to the
-- settled `t`.
pub settled-put : (ms : List (List ℕ × Tree)) (k : List ℕ) (t : Tree) (now : List (List ℕ × Tree))
    → now ≡ put_each [] (settled_pairs (members_of ms))
    → put now k (settled t) ≡ put_each [] (settled_pairs (members_of (ms ++ (k, t) ∷ [])))
settled-put ms k t now e = ap (λ (n : List (List ℕ × Tree)). put n k (settled t)) e ∙ sym (put_each-push ms k t [])
