use Rattle.std.proofs.Common.{◌≡◌, ℕ, List, [], ◌∷◌, ◌++◌, ◌+◌, ◌≤◌, suc, take, drop, length, append_assoc, refl, ap, sym, subst, ◌∙◌, inr}
use Rattle.std.proofs.Common.{arith, rules}
use Rattle.std.specs.Prelude.{string_cmp}
use Rattle.std.specs.BTreeMap.{insert_entry}
use Rattle.std.proofs.lemmas.List.{length-append, take_more}
use Rattle.serde_json.specs.Data as serde
use Rattle.serde_json.specs.View.{view, items_view, members_view}
use Rattle.serde_json.proofs.Views.{members_view-insert_entry}
use Rattle.ijson_value.proofs.DepthLemmas.{item-items_depth}
use Rattle.ijson_value.specs.Opened.{ref_value}
use Rattle.ijson_value.specs.Same.{Has}
use Rattle.ijson_value.specs.Tree.{array, object, no_items, no_members, depth, members_depth}
use Rattle.ijson_value.specs.Values.{array_tree, object_tree}
use Rattle.ijson_value.specs.WellFormed.{WellFormed, pair_trees}
use Rattle.ijson_value.specs.laws.HoldsWellFormed.{IsWellFormed-object}
use Rattle.ijson_convert.specs.SerdeTree.{SerdeMeans, NoSerdeMeans}
use Rattle.ijson_convert.proofs.Refusals.{passed_on, refused_too}
use Rattle.ijson_convert.proofs.Pushing.{split_at}
use Rattle.ijson_convert.proofs.pairs.PairTrees.{has_middle, deep_middle, key_is_new}
use Rattle.ijson_convert.proofs.serde_trees.SerdeMeanings.{array_means, array_unmeant, object_means, object_unmeant}
use Rattle.ijson_convert.proofs.serde.+to.Goals as goal

-- ---- Answers about `to_items`
pub to_items-loop-item-init : goal.to_items-loop-item-init
to_items-loop-item-init t c =
    record {
      means = subst (λ vs. SerdeMeans (serde.array (items_view vs)) (array_tree [])) (sym c.in_ok-list.ensures.items)
          (array no_items, tt, tt, tt);
      full = search rules;
      room = search rules;
    }

pub to_items-to_serde-requires : goal.to_items-to_serde-requires
to_items-to_serde-requires t c =
    let below = item-items_depth c.args.items.now c.loop-item.item-index c.item-item.result c.loop-item-test.true c.item-item.is in
    (omega (arith, below, c.decreases), tt)

pub to_items-returns-in_err-to_serde-clause-refused : goal.to_items-returns-in_err-to_serde-clause-refused
to_items-returns-in_err-to_serde-clause-refused t c =
    let xs = c.args.items.now in
    let i = c.loop-item.item-index in
    let u = c.item-item.result in
    let parts = split_at xs i u c.loop-item-test.true c.item-item.is in
    passed_on _ _ c.from_residual-in_err-to_serde.ensures.1 (refused_too (λ none. subst (λ us. NoSerdeMeans (array_tree us)) parts
    (array_unmeant (take i xs) u (drop (suc i) xs) none)) c.in_err-to_serde.ensures.refused)

pub to_items-loop-item-preserved : goal.to_items-loop-item-preserved
to_items-loop-item-preserved t c =
    let xs = c.args.items.now in
    let i = c.loop-item.item-index in
    let u = c.item-item.result in
    let v = c.in_ok-to_serde.field-0 in
    let more : take (i + 1) xs ≡ take i xs ++ u ∷ [] =
    take_more xs i u c.loop-item-test.true ∙ ap (λ y. take i xs ++ y ∷ []) (sym c.item-item.is) in
    let pushed : c.push_reserved.new.self.items ≡ c.loop-item.list.items ++ v ∷ [] = c.push_reserved.ensures.items in
    record {
      means = subst (λ us. SerdeMeans (serde.array (items_view c.push_reserved.new.self.items)) (array_tree us)) (sym more)
          (subst (λ vs. SerdeMeans (serde.array (items_view vs)) (array_tree (take i xs ++ u ∷ []))) (sym pushed)
          (array_means c.loop-item.list.items (take i xs) v u c.loop-item.invariant.means c.in_ok-to_serde.ensures.means));
      full = ap length pushed ∙ omega (arith, length-append c.loop-item.list.items (v ∷ []), c.loop-item.invariant.full);
      room = omega (arith, c.push_reserved.ensures.capacity, c.loop-item.invariant.room);
    }

-- ---- Answers about `to_serde`
pub to_serde-returns-in_err-to_serde_number-in-Number-clause-refused : goal.to_serde-returns-in_err-to_serde_number-in-Number-clause-refused
to_serde-returns-in_err-to_serde_number-in-Number-clause-refused t c =
    let is = ap (λ v. v.tree) (sym c.destructure_ref.ensures ∙ ap ref_value c.in-Number.is) in
    let r = c.in_err-to_serde_number-in-Number.ensures.refused in
    passed_on _ _ c.from_residual.ensures.1 (inr (r.0, subst NoSerdeMeans (sym is) r.1))

pub to_serde-returns-in_err-to_items-in-Array-clause-refused : goal.to_serde-returns-in_err-to_items-in-Array-clause-refused
to_serde-returns-in_err-to_items-in-Array-clause-refused t c =
    let is = ap (λ v. v.tree) (sym c.destructure_ref.ensures ∙ ap ref_value c.in-Array.is) in
    passed_on _ _ c.from_residual-in_err-to_items-in-Array.ensures.1 (refused_too (λ none. subst NoSerdeMeans (ap array_tree c.as_slice.ensures ∙ sym is) none)
    c.in_err-to_items-in-Array.ensures.refused)

pub to_serde-returns-in_err-to_serde_map-in-Object-clause-refused : goal.to_serde-returns-in_err-to_serde_map-in-Object-clause-refused
to_serde-returns-in_err-to_serde_map-in-Object-clause-refused t c =
    let is = ap (λ v. v.tree) (sym c.destructure_ref.ensures ∙ ap ref_value c.in-Object.is) in
    passed_on _ _ c.from_residual-in_err-to_serde_map-in-Object.ensures.1 (refused_too (λ none. subst NoSerdeMeans (sym is) none) c.in_err-to_serde_map-in-Object.ensures.refused)

-- ---- Answers about `to_serde_map`
pub to_serde_map-loop-key-init : goal.to_serde_map-loop-key-init
to_serde_map-loop-key-init t c =
    let none : c.new-map.result.entries ≡ [] = search rules in
    record {
      done = [];
      parts = sym (c.into_iter-key-iterator.ensures.into_iter_gives ∙ c.iter-key-items.ensures);
      means = subst (λ es. SerdeMeans (serde.object (members_view es)) (object_tree [])) (sym none)
          (object no_members, (tt, tt), tt, (refl, tt));
    }

pub to_serde_map-to_serde-requires : goal.to_serde_map-to_serde-requires
to_serde_map-to_serde-requires t c =
    let done = c.loop-key.invariant.done in
    let u = c.in-Some.value.now in
    let e : List ℕ × WellFormed = (c.in-Some.key.now, u) in
    let parts = sym (c.loop-key.invariant.parts ∙ ap (λ ps. done ++ ps) c.in-Some.ensures.steps) in
    let below = subst (λ ps. depth u.tree ≤ members_depth (pair_trees ps)) parts (deep_middle done e c.next.new.self) in
    (omega (arith, below, c.decreases), tt)

pub to_serde_map-returns-in_err-member-clause-refused : goal.to_serde_map-returns-in_err-member-clause-refused
to_serde_map-returns-in_err-member-clause-refused t c =
    let done = c.loop-key.invariant.done in
    let u = c.in-Some.value.now in
    let e : List ℕ × WellFormed = (c.in-Some.key.now, u) in
    let s = c.args.object.now in
    let parts = sym (c.loop-key.invariant.parts ∙ ap (λ ps. done ++ ps) c.in-Some.ensures.steps) in
    let has = subst (λ ps. Has e.0 u.tree (pair_trees ps)) parts (has_middle done e c.next.new.self) in
    passed_on _ _ c.from_residual-in_err-member.ensures.1 (refused_too (λ none. object_unmeant (pair_trees s.pairs) (IsWellFormed-object s) e.0 u.tree u.well_formed has none)
    c.in_err-member.ensures.refused)

pub to_serde_map-loop-key-preserved : goal.to_serde_map-loop-key-preserved
to_serde_map-loop-key-preserved t c =
    let done = c.loop-key.invariant.done in
    let u = c.in-Some.value.now in
    let e : List ℕ × WellFormed = (c.in-Some.key.now, u) in
    let left = c.next.new.self in
    let es = c.loop-key.map.entries in
    let key = c.in_ok-key.key in
    let v = c.in_ok-member.member in
    let parts : done ++ e ∷ left ≡ c.args.object.now.pairs =
    sym (c.loop-key.invariant.parts ∙ ap (λ ps. done ++ ps) c.in-Some.ensures.steps) in
    let s = c.args.object.now in
    let is_new = key_is_new done e.0 u left s.pairs parts s.distinct in
    let entries : c.insert.new.self.entries ≡ insert_entry string_cmp es key v = search rules in
    let put : members_view c.insert.new.self.entries ≡ serde.put e.0 (view v) (members_view es) =
    ap members_view entries ∙ members_view-insert_entry es key v ∙ ap (λ k. serde.put k (view v) (members_view es)) c.in_ok-key.ensures in
    record {
      done = done ++ e ∷ [];
      parts = sym parts ∙ sym (append_assoc done (e ∷ []) left);
      means = subst (λ ms. SerdeMeans (serde.object ms) (object_tree (done ++ e ∷ []))) (sym put)
          (object_means (members_view es) done (view v) e is_new c.in_ok-member.ensures.means
          c.loop-key.invariant.means);
    }
