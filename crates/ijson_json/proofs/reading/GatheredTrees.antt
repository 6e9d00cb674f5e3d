-- The stored values of elements and members while an array or object is read.
use Rattle.std.proofs.Common.{◌≡◌, ℕ, List, [], ◌∷◌, ◌++◌, map, refl}
use Rattle.std.proofs.lemmas.List.{map-append}
use Rattle.ijson_table.specs.Store.{put_each}
use Rattle.ijson_table.proofs.pairs.PutEach.{put_each-append}
use Rattle.ijson_value.specs.Tree.{Tree, items_of, members_of}
use Rattle.ijson_value.specs.laws.MemberTrees.{pair_tree, put-trees}
use Rattle.ijson_value.specs.WellFormed.{WellFormed, tree_of, item_trees, pair_trees}
use Rattle.ijson_json.specs.AreShared.{IsShared, AreShared, ItemsAreShared, MembersAreShared}
use Rattle.ijson_json.specs.Settled.{settled, settled_items, settled_pairs}
use Rattle.ijson_json.proofs.grammar.ElementShapes.{items_shape, members_shape}
use Rattle.ijson_json.proofs.reading.ArraysAndObjects.{arrays, objects, settled-push, settled-put}
use Rattle.ijson_json.proofs.reading.CacheContents.{item_shared, member_shared}
use Rattle.ijson_json.proofs.reading.Gathering.{Gathers}

-- Pushing the value of the element `t` onto the values of `ts` yields the values of `ts` and `t`.
pub item_pushed : (vs : List WellFormed) (ts : List Tree) (v : WellFormed) (t : Tree) → v.tree ≡ settled t
    → item_trees vs ≡ settled_items (items_of ts) → item_trees (vs ++ v ∷ []) ≡ settled_items (items_of (ts ++ t ∷ []))
item_pushed vs ts v t e h =
    rw (map-append tree_of vs (v ∷ []), e) (settled-push ts t (map tree_of vs) h)

-- The `Gathers` of arrays: an element is stored as its value.
abbrev pub kept_items : Gathers Tree items_shape arrays
kept_items = record {
  Kept = WellFormed;
  Keeps = λ v t. v.tree ≡ settled t;
  Are = λ vs ts. item_trees vs ≡ settled_items (items_of ts);
  Shares = λ cache v. AreShared cache v.tree;
  AllShare = λ cache vs. ItemsAreShared cache (item_trees vs);
  none = refl;
  none_share = λ cache. tt;
  push = item_pushed;
  share = item_shared;
}

-- Holds if the stored key is the key of the member, and the stored value is the value with
-- duplicate keys resolved.
abbrev pub KeepsMember : List ℕ × WellFormed → List ℕ × Tree → Type 0
KeepsMember p m = (p.0 ≡ m.0) × (p.1.tree ≡ settled m.1)

-- Holds if the stored members and the members as written form the same object after duplicate keys
-- are resolved.
abbrev pub AreMembers : List (List ℕ × WellFormed) → List (List ℕ × Tree) → Type 0
AreMembers ps ms = map pair_tree (put_each [] ps) ≡ put_each [] (settled_pairs (members_of ms))

-- If `ps` stores the members `ms`, and `p` stores the member `m`, then `ps` and `p` store `ms` and
-- `m`.
pub member_put : (ps : List (List ℕ × WellFormed)) (ms : List (List ℕ × Tree)) (p : List ℕ × WellFormed) (m : List ℕ × Tree)
    → KeepsMember p m → AreMembers ps ms → AreMembers (ps ++ p ∷ []) (ms ++ m ∷ [])
member_put ps ms (k, v) (l, t) (same, e) h =
    rw (put_each-append [] ps ((k, v) ∷ []), put-trees (put_each [] ps) k v, e, same) (settled-put ms l t (map pair_tree (put_each [] ps)) h)

-- The `Gathers` of objects: a member is stored as its key and its value.
abbrev pub kept_members : Gathers (List ℕ × Tree) members_shape objects
kept_members = record {
  Kept = List ℕ × WellFormed;
  Keeps = KeepsMember;
  Are = AreMembers;
  Shares = λ cache p. IsShared cache p.0 × AreShared cache p.1.tree;
  AllShare = λ cache ps. MembersAreShared cache (pair_trees (put_each [] ps));
  none = refl;
  none_share = λ cache. tt;
  push = member_put;
  share = member_shared;
}
