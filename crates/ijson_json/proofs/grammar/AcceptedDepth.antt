-- Lemmas: a value that was read is within the nesting limit.
use Rattle.std.proofs.Common.{ℕ, ◌≤◌, true, false, List, [], ◌∷◌, Result, Ok, Err, arith, ap}
use Rattle.std.specs.Prelude.{max, if◌then◌else◌, IfOk}
use Rattle.std.specs.Str.{bytes_eq}
use Rattle.ijson_table.specs.Store.{put, put_each}
use Rattle.ijson_value.specs.Tree.{Tree, array, object, Items, no_items, item, Members, no_members}
use Rattle.ijson_value.specs.Tree.{member, members_of, depth, items_depth, members_depth}
use Rattle.ijson_value.specs.WellFormed.{WellFormed}
use Rattle.ijson_json.specs.declared.fault.JsonError.{JsonError}
use Rattle.ijson_json.specs.private.Explains.{Answers}
use Rattle.ijson_json.specs.Grammar.{Accepted}
use Rattle.ijson_json.specs.Limits.{max_depth}
use Rattle.ijson_json.specs.Settled.{settled, settled_items, settled_pairs}

-- Putting the member `(k, t)` into `ps` yields a depth of at most the maximum of the depths of `t`
-- and `ps`.
put_depth : (ps : List (List ℕ × Tree)) (k : List ℕ) (t : Tree)
    → members_depth (members_of (put ps k t)) ≤ max (depth t) (members_depth (members_of ps))
put_depth [] k t = omega arith
put_depth (p ∷ ps) k t =
    let more = put_depth ps k t in
    elim (bytes_eq p.0 k) as (λ b. members_depth (members_of (if b then (p.0, t) ∷ ps else p ∷ put ps k t)) ≤ max (depth t)
    (max (depth p.1) (members_depth (members_of ps)))) [
      | true ↦ omega arith
      | false ↦ omega (arith, more)
    ]

-- Putting the members `ps` into `into` yields a depth of at most the maximum of the depths of
-- `into` and `ps`.
put_each_depth : (into ps : List (List ℕ × Tree)) → members_depth (members_of (put_each into ps)) ≤ max (members_depth (members_of into))
    (members_depth (members_of ps))
put_each_depth into [] = omega arith
put_each_depth into (p ∷ ps) =
    let more = put_each_depth (put into p.0 p.1) ps in
    let one = put_depth into p.0 p.1 in
    omega (arith, more, one)

-- Resolving duplicate keys does not increase the depth of a tree.
mutual
  settled_depth : (t : Tree) → depth (settled t) ≤ depth t
  settled_depth (array is) = omega (arith, items_settled_depth is)
  settled_depth (object ms) = omega (arith, put_each_depth [] (settled_pairs ms), pairs_settled_depth ms)
  settled_depth t = omega arith

  -- Resolving duplicate keys does not increase the depth of the elements of an array.
  items_settled_depth : (is : Items) → items_depth (settled_items is) ≤ items_depth is
  items_settled_depth no_items = omega arith
  items_settled_depth (item t more) = omega (arith, settled_depth t, items_settled_depth more)

  -- Resolving duplicate keys does not increase the depth of the members of an object.
  pairs_settled_depth : (ms : Members) → members_depth (members_of (settled_pairs ms)) ≤ members_depth ms
  pairs_settled_depth no_members = omega arith
  pairs_settled_depth (member k t more) = omega (arith, settled_depth t, pairs_settled_depth more)

-- The tree of an accepted text is within the nesting limit.
accepted_depth : (text : List ℕ) (t : Tree) → Accepted text t → depth t ≤ max_depth
accepted_depth text t (d, within, r) = omega (arith, within, r.deepest_is, ap depth r.tree_is, settled_depth r.written)

-- A value that was read is within the nesting limit.
pub answers_depth : (text : List ℕ) (result : Result WellFormed JsonError) → Answers text result
    → IfOk result (λ value. depth value.tree ≤ max_depth)
answers_depth text (Ok value) h = accepted_depth text value.tree h
answers_depth text (Err error) h = tt
