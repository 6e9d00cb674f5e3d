-- Lemmas: resolving duplicate keys keeps a tree whose objects have distinct keys.
use Rattle.std.proofs.Common.{◌≡◌, ℕ, List, [], ◌∷◌, refl, sym, ap, ap₂, subst, ◌∙◌}
use Rattle.ijson_table.specs.Store.{put_each, keys_of, IsDistinct}
use Rattle.ijson_table.proofs.pairs.PutEach.{put_each-new}
use Rattle.ijson_value.specs.Tree.{Tree, array, object, Items, no_items, item, Members, no_members}
use Rattle.ijson_value.specs.Tree.{member, members_of, member_keys}
use Rattle.ijson_value.specs.WellFormed.{IsWellFormed, AreWellFormed, HaveWellFormed}
use Rattle.ijson_json.specs.Settled.{settled, settled_items, settled_pairs}

-- Resolving duplicate keys in the values of members keeps the keys of the members.
keys-settled : (ms : Members) → keys_of (settled_pairs ms) ≡ member_keys ms
keys-settled no_members = refl
keys-settled (member k t more) = ap (λ (l : List (List ℕ)). k ∷ l) (keys-settled more)

mutual
  -- Resolving duplicate keys keeps a well-formed tree.
  pub settles : (t : Tree) → IsWellFormed t → settled t ≡ t
  settles (array is) h = ap array (settles_items is h)
  settles (object ms) h =
      let alone : put_each [] (settled_pairs ms) ≡ settled_pairs ms =
      put_each-new [] (settled_pairs ms) (subst IsDistinct (sym (keys-settled ms)) h.0) in
      ap object (ap members_of alone ∙ settles_members ms h.1)
  settles t h = refl

  -- Resolving duplicate keys keeps well-formed elements.
  settles_items : (is : Items) → AreWellFormed is → settled_items is ≡ is
  settles_items no_items h = refl
  settles_items (item t more) h = ap₂ item (settles t h.0) (settles_items more h.1)

  -- Resolving duplicate keys keeps well-formed members.
  settles_members : (ms : Members) → HaveWellFormed ms → members_of (settled_pairs ms) ≡ ms
  settles_members no_members h = refl
  settles_members (member k t more) h = ap₂ (λ (u : Tree) (m : Members). member k u m) (settles t h.0) (settles_members more h.1)
