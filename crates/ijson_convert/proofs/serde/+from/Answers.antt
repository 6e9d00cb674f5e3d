use Rattle.std.proofs.Common.{◌≡◌, ℕ, [], ◌∷◌, ◌++◌, ◌+◌, suc, length, vec_capacity, take, drop, append_assoc, refl, ap, sym, subst, ◌∙◌}
use Rattle.std.proofs.Common.{arith, rules}
use Rattle.std.specs.Prelude.{string_bytes}
use Rattle.std.proofs.lemmas.List.{append-nil, length-append, take_more, take_all}
use Rattle.serde_json.specs.Data as serde
use Rattle.serde_json.specs.View.{view, items_view, members_view}
use Rattle.serde_json.proofs.Views.{Entry, view-Array, view-Object}
use Rattle.ijson_string.specs.Cache.{Texts, interned}
use Rattle.ijson_value.specs.Values.{array_tree, object_tree}
use Rattle.ijson_value.specs.WellFormed.{item_trees, pair_trees}
use Rattle.ijson_convert.specs.Interned.{all_interned, SomeInterned}
use Rattle.ijson_convert.specs.SerdeTexts.{serde_texts, serde_items_texts, serde_members_texts}
use Rattle.ijson_convert.specs.SerdeTree.{SerdeItems, SerdeMembers, HasNoTree}
use Rattle.ijson_convert.specs.TextsOf.{texts_of}
use Rattle.ijson_convert.proofs.Interning.{none_interned, wholly_interned, some_behind, one_interned, one_begun}
use Rattle.ijson_convert.proofs.Pushing.{split_at}
use Rattle.ijson_convert.proofs.Refusals.{passed_on, refused_too}
use Rattle.ijson_convert.proofs.serde_trees.SerdeTrees.{value_strings, member_strings, entry_interned, tree_texts}
use Rattle.ijson_convert.proofs.serde_trees.SerdeTrees.{items_more, members_more, array_none, object_none, pairs_last}
use Rattle.ijson_convert.proofs.serde.+from.Given.{Over}
use Rattle.ijson_convert.proofs.serde.+from.Goals as goal
use Rattle.ijson_convert.proofs.serde.+from.Goals.{from_items-After-from_serde, from_serde_map-After-intern}
use Rattle.ijson_convert.proofs.serde.+from.Goals.{from_serde_map-After-from_pairs}

-- ---- Answers about `from_items`
-- The list consists of the elements so far, the current element and the elements after it.
item_parts : (g : Over) (t : ℕ) (c : from_items-After-from_serde g t) →
    let xs = c.deref-item-items.result.now in let i = c.loop-item.item-index in
    take i xs ++ c.item-item.result ∷ drop (suc i) xs ≡ c.args.items.now.items
item_parts g t c = split_at c.deref-item-items.result.now c.loop-item.item-index c.item-item.result (omega (arith, c.loop-item-test.true))
    c.item-item.is ∙ c.deref-item-items.ensures.value

-- If some leading strings of the current element were interned, so were some leading strings of the
-- list.
item_begun : (g : Over) (t : ℕ) (c : from_items-After-from_serde g t)
    → SomeInterned (serde_texts (view c.item-item.result)) c.loop-item.cache c.from_serde.new.cache
    → SomeInterned (serde_items_texts (items_view c.args.items.now.items)) c.args.cache.now c.from_serde.new.cache
item_begun g t c = one_begun value_strings _ _ _ _ _ c.loop-item.invariant.1 _ _ (item_parts g t c)

pub from_items-returns-in_err-value-clause-refused : goal.from_items-returns-in_err-value-clause-refused
from_items-returns-in_err-value-clause-refused g t c =
    let xs = c.deref-item-items.result.now in
    let i = c.loop-item.item-index in
    let parts = item_parts g t (goal.at.from_items-returns-in_err-value-clause-refused g t c).After-from_serde in
    passed_on _ _ c.from_residual-in_err-value.ensures.1 (refused_too (λ none. subst (λ l. HasNoTree (serde.array (items_view l))) parts
    (array_none (take i xs) c.item-item.result (drop (suc i) xs) none)) c.in_err-value.ensures.refused)

pub from_items-returns-in_err-value-clause-begun : goal.from_items-returns-in_err-value-clause-begun
from_items-returns-in_err-value-clause-begun g t c =
    passed_on _ _ c.from_residual-in_err-value.ensures.1 (item_begun g t (goal.at.from_items-returns-in_err-value-clause-begun g t c).After-from_serde c.in_err-value.ensures.begun)

pub from_items-returns-in_err-push-clause-begun : goal.from_items-returns-in_err-push-clause-begun
from_items-returns-in_err-push-clause-begun g t c =
    let v = c.item-item.result in
    let read = c.in_ok-value.ensures.cache ∙ ap (λ l. all_interned l c.loop-item.cache)
    (tree_texts (view v) c.in_ok-value.value.tree c.in_ok-value.ensures.tree) in
    passed_on _ _ c.from_residual-in_err-push.ensures.1 (item_begun g t (goal.at.from_items-returns-in_err-push-clause-begun g t c).After-from_serde
    (wholly_interned _ _ _ read))

pub from_items-loop-item-preserved : goal.from_items-loop-item-preserved
from_items-loop-item-preserved g t c =
    let xs = c.deref-item-items.result.now in
    let i = c.loop-item.item-index in
    let v = c.item-item.result in
    let u = c.in_ok-value.value in
    let more : take (i + 1) xs ≡ take i xs ++ v ∷ [] =
    take_more xs i v (omega (arith, c.loop-item-test.true)) ∙ ap (λ y. take i xs ++ y ∷ []) (sym c.item-item.is) in
    let read = c.in_ok-value.ensures.cache ∙ ap (λ l. all_interned l c.loop-item.cache)
    (tree_texts (view v) u.tree c.in_ok-value.ensures.tree) in (
      subst (λ l. SerdeItems (items_view l) (item_trees c.push.new.self.items)) (sym more)
          (subst (λ us. SerdeItems (items_view (take i xs ++ v ∷ [])) (item_trees us)) (sym c.in_ok-push.ensures.ok)
          (items_more (take i xs) c.loop-item.array.items v u c.loop-item.invariant.0 c.in_ok-value.ensures.tree)),
      one_interned value_strings (take i xs) v _ _ _ c.loop-item.invariant.1 read
          ∙ ap (λ vs. all_interned (serde_items_texts (items_view vs)) c.args.cache.now) (sym more),
    )

pub from_items-returns-clause-cache : goal.from_items-returns-clause-cache
from_items-returns-clause-cache g t c =
    c.loop-item.invariant.1 ∙ ap (λ vs. all_interned (serde_items_texts (items_view vs)) c.args.cache.now)
    (take_all c.loop-item.item-index c.deref-item-items.result.now (omega (arith, c.loop-item-test.false)) ∙ c.deref-item-items.ensures.value)

-- ---- Answers about `from_serde`
pub from_serde-returns-in_err-from_items-in-Array-clause-refused : goal.from_serde-returns-in_err-from_items-in-Array-clause-refused
from_serde-returns-in_err-from_items-in-Array-clause-refused g t c =
    let seen = sym (ap view c.in-Array.is ∙ view-Array c.in-Array.items) in
    passed_on _ _ c.from_residual-in_err-from_items-in-Array.ensures.1 (refused_too (λ none. subst HasNoTree seen none) c.in_err-from_items-in-Array.ensures.refused)

pub from_serde-returns-in_err-from_serde_map-in-Object-clause-refused :
    goal.from_serde-returns-in_err-from_serde_map-in-Object-clause-refused
from_serde-returns-in_err-from_serde_map-in-Object-clause-refused g t c =
    let seen = sym (ap view c.in-Object.is ∙ view-Object c.in-Object.map) in
    passed_on _ _ c.from_residual-in_err-from_serde_map-in-Object.ensures.1 (refused_too (λ none. subst HasNoTree seen none) c.in_err-from_serde_map-in-Object.ensures.refused)

pub from_serde-returns-in_ok-from_items-in-Array-clause-cache : goal.from_serde-returns-in_ok-from_items-in-Array-clause-cache
from_serde-returns-in_ok-from_items-in-Array-clause-cache g t c =
    let made = c.in_ok-from_items-in-Array.field-0 in
    let texts = tree_texts (serde.array (items_view c.in-Array.items.items))
    (array_tree made.items) c.in_ok-from_items-in-Array.ensures.tree in
    c.in_ok-from_items-in-Array.ensures.cache ∙ ap (λ l. all_interned l c.args.cache.now) (sym texts)
    ∙ ap (λ v. all_interned (texts_of v.tree) c.args.cache.now) (sym c.from-in-Array.ensures)

-- ---- Answers about `from_serde_map`
pub from_serde_map-loop-key-init : goal.from_serde_map-loop-key-init
from_serde_map-loop-key-init g t c = record {
  done = [];
  parts = search rules;
  trees = subst (λ ps. SerdeMembers (members_view []) (pair_trees ps)) (sym c.in_ok-pairs.ensures.items) tt;
  texts = refl;
  room = search rules;
}

-- The map consists of the entries so far, the current entry and the remaining entries.
member_parts : (g : Over) (t : ℕ) (c : from_serde_map-After-intern g t)
    → c.loop-key.invariant.done ++ (c.in-Some.key.now, c.in-Some.member.now) ∷ c.next.new.self ≡ c.args.map.now.entries
member_parts g t c = sym (c.loop-key.invariant.parts ∙ ap (λ es. c.loop-key.invariant.done ++ es) c.in-Some.ensures.steps)

-- If the iterator has ended, the entries so far are all entries of the map.
all_done : (g : Over) (t : ℕ) (c : from_serde_map-After-from_pairs g t) → c.args.map.now.entries ≡ c.loop-key.invariant.done
all_done g t c =
    let done = c.loop-key.invariant.done in
    c.loop-key.invariant.parts ∙ ap (λ es. done ++ es) c.in-None.ensures.steps.0 ∙ append-nil done

-- If some leading strings of the current entry were interned, so were some leading strings of the
-- map.
member_begun : (g : Over) (t : ℕ) (c : from_serde_map-After-intern g t) (new : Texts)
    → SomeInterned (string_bytes c.in-Some.key.now ∷ serde_texts (view c.in-Some.member.now)) c.loop-key.cache new
    → SomeInterned (serde_members_texts (members_view c.args.map.now.entries)) c.args.cache.now new
member_begun g t c new = one_begun member_strings _ _ _ _ _ c.loop-key.invariant.texts _ _ (member_parts g t c)

pub from_serde_map-returns-in_err-key-clause-begun : goal.from_serde_map-returns-in_err-key-clause-begun
from_serde_map-returns-in_err-key-clause-begun g t c =
    passed_on _ _ c.from_residual-in_err-key.ensures.1
    (member_begun g t (goal.at.from_serde_map-returns-in_err-key-clause-begun g t c).After-intern c.intern.new.cache
    (subst (SomeInterned _ c.loop-key.cache) (sym c.in_err-key.ensures.refused) (none_interned _ c.loop-key.cache)))

pub from_serde_map-returns-in-Err-clause-refused : goal.from_serde_map-returns-in-Err-clause-refused
from_serde_map-returns-in-Err-clause-refused g t c =
    let e : Entry = (c.in-Some.key.now, c.in-Some.member.now) in
    let parts = member_parts g t (goal.at.from_serde_map-returns-in-Err-clause-refused g t c).After-intern in
    refused_too (λ none. subst (λ es. HasNoTree (serde.object (members_view es))) parts
    (object_none c.loop-key.invariant.done e c.next.new.self none)) c.in-Err.ensures.refused

pub from_serde_map-returns-in-Err-clause-begun : goal.from_serde_map-returns-in-Err-clause-begun
from_serde_map-returns-in-Err-clause-begun g t c =
    let e : Entry = (c.in-Some.key.now, c.in-Some.member.now) in
    let new = c.from_serde.new.cache in
    let keyed : c.intern.new.cache ≡ all_interned (string_bytes e.0 ∷ []) c.loop-key.cache =
    c.in_ok-key.ensures.cache ∙ ap (λ k. interned k c.loop-key.cache) c.as_str.ensures.value in
    let behind = subst (λ m. SomeInterned (serde_texts (view e.1)) m new) keyed c.in-Err.ensures.begun in
    member_begun g t (goal.at.from_serde_map-returns-in-Err-clause-begun g t c).After-intern new
    (some_behind (string_bytes e.0 ∷ []) (serde_texts (view e.1)) _ _ behind)

pub from_serde_map-push_reserved-requires : goal.from_serde_map-push_reserved-requires
from_serde_map-push_reserved-requires g t c =
    omega (arith, c.loop-key.invariant.room, ap length c.in-Some.ensures.steps, c.loop-key.pairs.ok.0)

pub from_serde_map-loop-key-preserved : goal.from_serde_map-loop-key-preserved
from_serde_map-loop-key-preserved g t c =
    let done = c.loop-key.invariant.done in
    let e : Entry = (c.in-Some.key.now, c.in-Some.member.now) in
    let left = c.next.new.self in
    let new = c.from_serde.new.cache in
    let old = c.loop-key.pairs.items in
    let u = c.in-Ok.value in
    let read = entry_interned e c.in-Ok.value.tree c.as_str.result.now c.loop-key.cache c.intern.new.cache new
    c.in_ok-key.ensures.cache c.as_str.ensures.value c.in-Ok.ensures.cache c.in-Ok.ensures.tree in
    let pushed : c.push_reserved.new.self.items ≡ old ++ (c.in_ok-key.key, u) ∷ [] = search rules in
    let room : vec_capacity c.push_reserved.new.self ≡ vec_capacity c.loop-key.pairs = search rules in
    let more = length-append old ((c.in_ok-key.key, u) ∷ []) in
    let last = pushed ∙ ap (λ k. old ++ (k, u) ∷ []) (c.in_ok-key.ensures.text ∙ c.as_str.ensures.value) in
    record {
      done = done ++ e ∷ [];
      parts = c.loop-key.invariant.parts ∙ ap (λ es. done ++ es) c.in-Some.ensures.steps ∙ sym (append_assoc done (e ∷ []) left);
      trees = subst (λ ps. SerdeMembers (members_view (done ++ e ∷ [])) (pair_trees ps)) (sym last)
          (members_more done old e u c.loop-key.invariant.trees c.in-Ok.ensures.tree);
      texts = one_interned member_strings done e _ _ _ c.loop-key.invariant.texts read;
      room = omega (arith, room, ap length pushed, more, c.loop-key.invariant.room, ap length c.in-Some.ensures.steps);
    }

pub from_serde_map-returns-in_err-from_pairs-clause-begun : goal.from_serde_map-returns-in_err-from_pairs-clause-begun
from_serde_map-returns-in_err-from_pairs-clause-begun g t c =
    let all = all_done g t (goal.at.from_serde_map-returns-in_err-from_pairs-clause-begun g t c).After-from_pairs in
    passed_on _ _ c.from_residual-in_err-from_pairs.ensures.1 (wholly_interned _ _ _ (c.loop-key.invariant.texts
    ∙ ap (λ es. all_interned (serde_members_texts (members_view es)) c.args.cache.now) (sym all)))

pub from_serde_map-returns-clause-tree : goal.from_serde_map-returns-clause-tree
from_serde_map-returns-clause-tree g t c =
    let entries = c.args.map.now.entries in
    let all = all_done g t (goal.at.from_serde_map-returns-clause-tree g t c).After-from_pairs in
    let trees = subst (λ es. SerdeMembers (members_view es) (pair_trees c.loop-key.pairs.items)) (sym all) c.loop-key.invariant.trees in
    let last = pairs_last entries c.loop-key.pairs.items trees c.iter-key-items.ensures.ordered in
    subst (λ ps. SerdeMembers (members_view entries) (pair_trees ps)) (sym (c.in_ok-from_pairs.ensures.pairs ∙ last)) trees

pub from_serde_map-returns-clause-cache : goal.from_serde_map-returns-clause-cache
from_serde_map-returns-clause-cache g t c =
    let entries = c.args.map.now.entries in
    let all = all_done g t (goal.at.from_serde_map-returns-clause-cache g t c).After-from_pairs in
    let texts = tree_texts (serde.object (members_view entries)) (object_tree c.in_ok-from_pairs.field-0.pairs)
    (from_serde_map-returns-clause-tree g t c) ∙ ap (λ es. serde_members_texts (members_view es)) all in
    c.loop-key.invariant.texts ∙ ap (λ l. all_interned l c.args.cache.now) (sym texts)
