use Rattle.std.proofs.Common.{◌≡◌, ◌≢◌, ◌∷◌, ◌++◌, length, map, arith, rules, sym, ap, ◌∙◌}
use Rattle.std.specs.Option.{unwrap_or}
use Rattle.std.specs.Prelude.{is_ok}
use Rattle.std.specs.Vec.Iter.{into_iter_items}
use Rattle.std.proofs.lemmas.List.{append-nil, nil_from_length}
use Rattle.std.proofs.lemmas.Result.{IfOk-weaker}
use mathlib.Core.Bool.{true≢false}
use Rattle.ijson_table.specs.Store.{lookup, put}
use Rattle.ijson_value.specs.AtKey.{shift_out_key}
use Rattle.ijson_value.specs.Kind.{kind_of}
use Rattle.ijson_value.specs.Tree.{object, members_of, members_depth}
use Rattle.ijson_value.specs.Values.{null_value, object_tree}
use Rattle.ijson_value.specs.WellFormed.{tree_of, pair_trees}
use Rattle.ijson_value.specs.declared.value.ValueType.TheVariants.{Null}
use Rattle.ijson_value.specs.laws.MemberTrees.{members_of-list, pair_tree}
use Rattle.ijson_extra.specs.MergePatch.{members_in, merged, merged_into}
use Rattle.ijson_extra.specs.private.Joined.{joined, old_trees, shown}
use Rattle.ijson_extra.proofs.patching.Joined.{built, changes_depth, changes_depth-joined, made}
use Rattle.ijson_extra.proofs.patching.Steps.{one_removed, one_put}
use Rattle.ijson_extra.proofs.merge_patch.+merge.Goals as goal

pub changed_in_turn-loop-key-preserved-then-is_null : goal.changed_in_turn-loop-key-preserved-then-is_null
changed_in_turn-loop-key-preserved-then-is_null t c =
    let key = c.in-Some.key.now in
    let change = c.in-Some.change.now in
    let object = c.loop-key.object in
    let rest = c.next.new.self in
    let left : c.loop-key.key-iterator ≡ (key, change) ∷ rest = c.in-Some.ensures.steps in
    let is_null : kind_of change.tree ≡ Null = c.is_null.ensures.0 c.if-is_null.true in
    let removed : c.remove.new.object.pairs ≡ shift_out_key key object.pairs = c.remove.ensures in
    record {
      below = omega (arith, ap (λ ps. members_depth (pair_trees ps)) left, c.loop-key.invariant.below);
      whole = one_removed object.pairs c.remove.new.object.pairs rest key change is_null object.distinct removed
          ∙ ap (λ l. merged_into (members_in (object_tree object.pairs)) (pair_trees l)) (sym left) ∙ c.loop-key.invariant.whole;
    }

pub changed_in_turn-loop-key-preserved : goal.changed_in_turn-loop-key-preserved
changed_in_turn-loop-key-preserved t c =
    let key = c.in-Some.key.now in
    let change = c.in-Some.change.now in
    let ps = c.loop-key.object.pairs in
    let rest = c.next.new.self in
    let w = c.replace.new.dest in
    let copied : c.in_ok-clone.field-0 ≡ key = c.in_ok-clone.ensures.cases in
    let left : c.loop-key.key-iterator ≡ (key, change) ∷ rest = c.in-Some.ensures.steps in
    let not_null : kind_of change.tree ≢ Null = λ e. absurd (true≢false (sym (c.is_null.ensures.1 e) ∙ c.if-is_null.false)) in
    let old = c.take.ensures.taken ∙ c.in-Ok.ensures.value ∙ ap (λ k. unwrap_or (lookup k ps) null_value) copied in
    let made : w.tree ≡ merged c.take.result.tree change.tree = search rules in
    let kept = (c.place_of.follows.holds w (ap is_ok c.in-Ok.is)).0 ∙ ap (λ k. put ps k w) copied in
    record {
      below = omega (arith, ap (λ ps. members_depth (pair_trees ps)) left, c.loop-key.invariant.below);
      whole = one_put ps (c.place_of.follows.lender w).pairs rest key change c.take.result w not_null old made kept
          ∙ ap (λ l. merged_into (members_in (object_tree ps)) (pair_trees l)) (sym left) ∙ c.loop-key.invariant.whole;
    }

pub changed_in_turn-returns : goal.changed_in_turn-returns
changed_in_turn-returns t c =
    let ps = c.loop-key.object.pairs in
    ap tree_of c.from.ensures
    ∙ ap object (sym (members_of-list (pair_trees ps)))
    ∙ ap (λ l. object (members_of (merged_into (members_in (object_tree ps)) (pair_trees l)))) (sym c.in-None.ensures.steps.0)
    ∙ ap (λ ms. object (members_of ms)) c.loop-key.invariant.whole

pub changed_at_once-loop-key-init : goal.changed_at_once-loop-key-init
changed_at_once-loop-key-init t c =
    let pairs = c.args.object.pairs in
    let changes = c.args.changes.now.pairs in
    let keys = into_iter_items c.into_iter-key-iterator.result in
    let olds = c.into_iter-olds.result in
    let gives = c.into_iter-key-iterator.ensures.into_iter_gives in
    let are : map shown keys ≡ joined pairs changes = ap (map shown) gives.0 ∙ c.in_ok-keys.ensures in
    record {
      below = omega (arith, ap changes_depth are, changes_depth-joined pairs changes);
      whole = ap (λ ps. map pair_tree ps ++ made (map shown keys) (old_trees olds)) c.in_ok-pairs.ensures.items
          ∙ ap (λ ks. made ks (old_trees olds)) are
          ∙ ap (λ ps. made (joined pairs changes) (old_trees ps)) c.into_iter-olds.ensures.into_iter_gives;
      counted = gives.1 ∙ c.in_ok-keys.keys.ok.0 ∙ ap length (sym gives.0);
      room = search rules;
    }

pub changed_at_once-returns : goal.changed_at_once-returns
changed_at_once-returns t c =
    let left = c.loop-key.pairs.items in
    let none = nil_from_length (into_iter_items c.loop-key.key-iterator) (sym c.loop-key.invariant.counted ∙ c.in-None.ensures.steps.0) in
    let whole = sym (append-nil (map pair_tree left))
    ∙ ap (λ ks. map pair_tree left ++ made (map shown ks) (old_trees c.loop-key.olds)) (sym none) ∙ c.loop-key.invariant.whole in
    IfOk-weaker c.value_of_pairs.result _ _ (λ value is. is
    ∙ built c.args.object.pairs c.args.changes.now.pairs c.args.object.distinct left c.args.changes.now.distinct whole)
    c.value_of_pairs.ensures
