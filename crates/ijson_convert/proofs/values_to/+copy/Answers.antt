use Rattle.std.proofs.Common.{◌≡◌, ℕ, List, [], ◌∷◌, ◌++◌, ◌≤◌, length, map, append_assoc, refl, ap}
use Rattle.std.proofs.Common.{sym, subst, ◌∙◌, arith, rules, vec_capacity}
use Rattle.std.proofs.lemmas.List.{append-nil, length-append, take_all}
use Rattle.ijson_string.specs.Cache.{Texts}
use Rattle.ijson_table.specs.Store.{IsDistinct, keys_of}
use Rattle.ijson_value.proofs.DepthLemmas.{item-items_depth}
use Rattle.ijson_value.specs.Tree.{depth, members_depth, array, items_of}
use Rattle.ijson_value.specs.Values.{array_tree, object_tree}
use Rattle.ijson_value.specs.WellFormed.{WellFormed, pair_trees, tree_of}
use Rattle.ijson_value.specs.laws.MemberTrees.{pair_tree}
use Rattle.ijson_convert.specs.Interned.{all_interned, SomeInterned}
use Rattle.ijson_convert.specs.TextsOf.{texts_of}
use Rattle.ijson_convert.proofs.Interning.{none_interned, wholly_interned, some_behind}
use Rattle.ijson_convert.proofs.Pushing.{item_pushed, item_begun}
use Rattle.ijson_convert.proofs.Refusals.{passed_on}
use Rattle.ijson_convert.proofs.pairs.PairTrees.{deep_middle}
use Rattle.ijson_convert.proofs.pairs.PairsPut.{one_more, one_refused, all_put}
use Rattle.ijson_convert.proofs.values_to.+copy.Given.{Over}
use Rattle.ijson_convert.proofs.values_to.+copy.Goals as goal
use Rattle.ijson_convert.proofs.values_to.+copy.Goals.{copy_pairs-After-intern, copy_pairs-After-from_pairs}

-- ---- Answers about `copy_items`
pub copy_items-copy_value-requires : goal.copy_items-copy_value-requires
copy_items-copy_value-requires g t c =
    let below = item-items_depth c.args.items.now c.loop-item.item-index c.item-item.result c.loop-item-test.true c.item-item.is in
    λ κs lives. (omega (arith, below, c.decreases), lives)

pub copy_items-returns-in_err-copy-clause-refused : goal.copy_items-returns-in_err-copy-clause-refused
copy_items-returns-in_err-copy-clause-refused g t c =
    passed_on _ _ c.from_residual-in_err-copy.ensures.1 (
      c.in_err-copy.ensures.refused.0,
      item_begun tree_of _ _ _ c.loop-item-test.true c.item-item.is _ _ _ c.loop-item.invariant.1 c.in_err-copy.ensures.refused.1,
    )

pub copy_items-returns-in_err-push-clause-refused : goal.copy_items-returns-in_err-push-clause-refused
copy_items-returns-in_err-push-clause-refused g t c =
    passed_on _ _ c.from_residual-in_err-push.ensures.1 (
      refl,
      item_begun tree_of _ _ _ c.loop-item-test.true c.item-item.is _ _ _ c.loop-item.invariant.1
          (wholly_interned _ _ _ c.in_ok-copy.ensures.cache),
    )

pub copy_items-loop-item-preserved : goal.copy_items-loop-item-preserved
copy_items-loop-item-preserved g t c =
    item_pushed tree_of _ _ _ c.loop-item-test.true c.item-item.is _ _ _ c.loop-item.invariant.1 _ _ _ c.loop-item.invariant.0 c.in_ok-push.ensures.ok
    c.in_ok-copy.ensures.tree c.in_ok-copy.ensures.cache

pub copy_items-returns-clause-tree : goal.copy_items-returns-clause-tree
copy_items-returns-clause-tree g t c =
    let all = take_all c.loop-item.item-index c.args.items.now c.loop-item-test.false in
    ap (λ ts. array (items_of ts)) (c.loop-item.invariant.0 ∙ ap (map tree_of) all)

pub copy_items-returns-clause-cache : goal.copy_items-returns-clause-cache
copy_items-returns-clause-cache g t c =
    c.loop-item.invariant.1 ∙ ap (λ vs. all_interned (texts_of (array_tree vs)) c.args.cache.now)
    (take_all c.loop-item.item-index c.args.items.now c.loop-item-test.false)

-- ---- Answers about `copy_pairs`
pub copy_pairs-loop-key-init : goal.copy_pairs-loop-key-init
copy_pairs-loop-key-init g t c = record {
  done = [];
  parts = sym (c.into_iter-key-iterator.ensures.into_iter_gives ∙ c.iter-key-items.ensures);
  so_far = record { pairs = ap (map pair_tree) c.in_ok-pairs.ensures.items; texts = refl };
  room = search rules;
}

-- The object consists of the entries so far, the current entry and the remaining entries.
pair_parts : (g : Over) (t : ℕ) (c : copy_pairs-After-intern g t)
    → c.args.object.now.pairs ≡ c.loop-key.invariant.done ++ (c.in-Some.key.now, c.in-Some.value.now) ∷ c.next.new.self
pair_parts g t c = c.loop-key.invariant.parts ∙ ap (λ ps. c.loop-key.invariant.done ++ ps) c.in-Some.ensures.steps

pub copy_pairs-copy_value-requires : goal.copy_pairs-copy_value-requires
copy_pairs-copy_value-requires g t c =
    let u = c.in-Some.value.now in
    let parts = pair_parts g t (goal.at.copy_pairs-copy_value-requires g t c).After-intern in
    let below = subst (λ ps. depth u.tree ≤ members_depth (pair_trees ps)) (sym parts)
    (deep_middle c.loop-key.invariant.done (c.in-Some.key.now, u) c.next.new.self) in
    λ κs lives. (omega (arith, below, c.decreases), lives)

-- If some leading strings of the current entry were interned, so were some leading strings of the
-- object.
pair_begun : (g : Over) (t : ℕ) (c : copy_pairs-After-intern g t) (new : Texts)
    → SomeInterned (c.as_str.result.now ∷ texts_of c.in-Some.value.now.tree) c.loop-key.cache new
    → SomeInterned (texts_of (object_tree c.args.object.now.pairs)) c.args.cache.now new
pair_begun g t c new =
    one_refused c.loop-key.invariant.so_far (c.in-Some.key.now, c.in-Some.value.now) c.as_str.ensures c.next.new.self (pair_parts g t c)

pub copy_pairs-returns-in_err-key-clause-refused : goal.copy_pairs-returns-in_err-key-clause-refused
copy_pairs-returns-in_err-key-clause-refused g t c =
    passed_on _ _ c.from_residual-in_err-key.ensures.1 (
      refl,
      pair_begun g t (goal.at.copy_pairs-returns-in_err-key-clause-refused g t c).After-intern c.intern.new.cache
          (subst (SomeInterned _ c.loop-key.cache) (sym c.in_err-key.ensures.refused) (none_interned _ c.loop-key.cache)),
    )

pub copy_pairs-returns-in-Err-clause-refused : goal.copy_pairs-returns-in-Err-clause-refused
copy_pairs-returns-in-Err-clause-refused g t c =
    let here = (goal.at.copy_pairs-returns-in-Err-clause-refused g t c).After-intern in
    let texts = texts_of c.in-Some.value.now.tree in
    let behind = subst (λ m. SomeInterned texts m c.copy_value.new.cache) c.in_ok-key.ensures.cache c.in-Err.ensures.refused.1 in (
      c.in-Err.ensures.refused.0,
      pair_begun g t here c.copy_value.new.cache (some_behind (c.as_str.result.now ∷ []) texts _ _ behind),
    )

pub copy_pairs-push_reserved-requires : goal.copy_pairs-push_reserved-requires
copy_pairs-push_reserved-requires g t c =
    omega (arith, c.loop-key.invariant.room, ap length c.in-Some.ensures.steps, c.loop-key.pairs.ok.0)

pub copy_pairs-loop-key-preserved : goal.copy_pairs-loop-key-preserved
copy_pairs-loop-key-preserved g t c =
    let done = c.loop-key.invariant.done in
    let e : List ℕ × WellFormed = (c.in-Some.key.now, c.in-Some.value.now) in
    let p : List ℕ × WellFormed = (c.in_ok-key.key, c.in-Ok.copy) in
    let pushed : c.push_reserved.new.self.items ≡ c.loop-key.pairs.items ++ p ∷ [] = search rules in
    let room : vec_capacity c.push_reserved.new.self ≡ vec_capacity c.loop-key.pairs = search rules in
    let parts = pair_parts g t (goal.at.copy_pairs-loop-key-preserved g t c).After-intern in
    record {
      done = done ++ e ∷ [];
      parts = parts ∙ sym (append_assoc done (e ∷ []) c.next.new.self);
      so_far = one_more c.loop-key.invariant.so_far e c.as_str.ensures p c.in_ok-key.ensures.text c.in-Ok.ensures.tree pushed refl
          (c.in-Ok.ensures.cache ∙ ap (all_interned (texts_of e.1.tree)) c.in_ok-key.ensures.cache);
      room = omega (
        arith,
        room,
        ap length pushed,
        length-append c.loop-key.pairs.items (p ∷ []),
        c.loop-key.invariant.room,
        ap length c.in-Some.ensures.steps,
      );
    }

-- If the iterator has ended, the entries so far are all entries of the object.
all_done : (g : Over) (t : ℕ) (c : copy_pairs-After-from_pairs g t) → c.loop-key.invariant.done ≡ c.args.object.now.pairs
all_done g t c =
    let done = c.loop-key.invariant.done in
    sym (c.loop-key.invariant.parts ∙ ap (λ ps. done ++ ps) c.in-None.ensures.steps.0 ∙ append-nil done)

-- If the iterator has ended, all strings of the object were interned.
all_texts : (g : Over) (t : ℕ) (c : copy_pairs-After-from_pairs g t)
    → c.loop-key.cache ≡ all_interned (texts_of (object_tree c.args.object.now.pairs)) c.args.cache.now
all_texts g t c =
    c.loop-key.invariant.so_far.texts ∙ ap (λ ps. all_interned (texts_of (object_tree ps)) c.args.cache.now) (all_done g t c)

pub copy_pairs-returns-in_err-from_pairs-clause-refused : goal.copy_pairs-returns-in_err-from_pairs-clause-refused
copy_pairs-returns-in_err-from_pairs-clause-refused g t c =
    let here = (goal.at.copy_pairs-returns-in_err-from_pairs-clause-refused g t c).After-from_pairs in
    passed_on _ _ c.from_residual-in_err-from_pairs.ensures.1 (refl, wholly_interned _ _ _ (all_texts g t here))

pub copy_pairs-returns-clause-tree : goal.copy_pairs-returns-clause-tree
copy_pairs-returns-clause-tree g t c =
    let all = all_done g t (goal.at.copy_pairs-returns-clause-tree g t c).After-from_pairs in
    let distinct = subst (λ ps. IsDistinct (keys_of ps)) (sym all) c.args.object.now.distinct in
    all_put c.loop-key.invariant.so_far distinct c.in_ok-from_pairs.ensures.pairs ∙ ap object_tree all

pub copy_pairs-returns-clause-cache : goal.copy_pairs-returns-clause-cache
copy_pairs-returns-clause-cache g t c = all_texts g t (goal.at.copy_pairs-returns-clause-cache g t c).After-from_pairs
