use Rattle.std.proofs.Common.{◌≡◌, Some, None, ◌&&◌, refl, arith, rules, sym, ap, ◌∙◌, drop, suc, add-one, length, drop_of_length-le}
use Rattle.ijson_table.specs.Store.{lookup}
use Rattle.ijson_value.specs.WellFormed.{pair_trees}
use Rattle.ijson_value.specs.SameTest.{same, same_in}
use Rattle.ijson_value.specs.Values.{object_tree}
use Rattle.ijson_value.specs.Tree.{members_depth}
use Rattle.ijson_value.proofs.DepthLemmas.{pair-members_depth, items_fall, object_shown}
use Rattle.ijson_value.proofs.comparing.SameSteps.{in-drop-None, in-drop-Some, each-other_lengths, objects-lengths, objects-other_lengths}
use Rattle.ijson_value.proofs.same.+same.Goals as goal

pub same_items-returns-then-xs-ys : goal.same_items-returns-then-xs-ys
same_items-returns-then-xs-ys t c = sym (each-other_lengths c.args.xs.now c.args.ys.now c.if-xs-ys.true)

pub same_pairs-returns-then-len : goal.same_pairs-returns-then-len
same_pairs-returns-then-len t c =
    sym (objects-other_lengths c.args.a.now.pairs c.args.b.now.pairs (λ e. c.if-len.true (c.len.ensures
    ∙ e ∙ sym c.len-2.ensures)))

pub same_pairs-returns-in-None : goal.same_pairs-returns-in-None
same_pairs-returns-in-None t c =
    let ps = c.as_slice-pair-items.result.now in
    let qs = c.args.b.now.pairs in
    let p = c.pair-item.result in
    let lengths : length c.args.a.now.pairs ≡ length qs = sym c.len.ensures ∙ c.if-len.false
    ∙ c.len-2.ensures in
    let none : None ≡ lookup p.0 qs = c.in-None.ensures ∙ ap (λ k. lookup k qs) c.as_str.ensures in
    sym (objects-lengths c.args.a.now.pairs qs lengths ∙ c.loop-pair.invariant
    ∙ in-drop-None ps qs c.loop-pair.pair-index p c.loop-pair-test.true c.pair-item.is none)

pub same_pairs-same_value-requires : goal.same_pairs-same_value-requires
same_pairs-same_value-requires t c =
    let below = pair-members_depth c.as_slice-pair-items.result.now c.loop-pair.pair-index
    c.pair-item.result c.loop-pair-test.true c.pair-item.is in (
      omega (
        arith,
        below,
        ap (λ ps. members_depth (pair_trees ps)) c.as_slice-pair-items.ensures,
        c.decreases,
      ),
      tt,
    )

pub same_pairs-returns-then-not-same_value : goal.same_pairs-returns-then-not-same_value
same_pairs-returns-then-not-same_value t c =
    let ps = c.as_slice-pair-items.result.now in
    let s = c.args.b.now in
    let p = c.pair-item.result in
    let lengths : length c.args.a.now.pairs ≡ length s.pairs = sym c.len.ensures ∙ c.if-len.false
    ∙ c.len-2.ensures in
    let some : Some c.in-Some.found.now ≡ lookup p.0 s.pairs =
    c.in-Some.ensures ∙ ap (λ k. lookup k s.pairs) c.as_str.ensures in
    let rest = same_in (pair_trees (drop (suc c.loop-pair.pair-index) ps)) (pair_trees s.pairs) in
    sym (objects-lengths c.args.a.now.pairs s.pairs lengths ∙ c.loop-pair.invariant
    ∙ in-drop-Some ps s c.loop-pair.pair-index p c.in-Some.found.now c.same_value.result
    c.loop-pair-test.true c.pair-item.is some c.same_value.ensures
    ∙ ap (λ b. b && rest) c.if-not-same_value.true)

pub same_pairs-loop-pair-preserved : goal.same_pairs-loop-pair-preserved
same_pairs-loop-pair-preserved t c =
    let ps = c.as_slice-pair-items.result.now in
    let s = c.args.b.now in
    let p = c.pair-item.result in
    let some : Some c.in-Some.found.now ≡ lookup p.0 s.pairs =
    c.in-Some.ensures ∙ ap (λ k. lookup k s.pairs) c.as_str.ensures in
    let rest = same_in (pair_trees (drop (suc c.loop-pair.pair-index) ps)) (pair_trees s.pairs) in
    rw add-one (c.loop-pair.invariant
    ∙ in-drop-Some ps s c.loop-pair.pair-index p c.in-Some.found.now c.same_value.result
    c.loop-pair-test.true c.pair-item.is some c.same_value.ensures
    ∙ ap (λ b. b && rest) c.if-not-same_value.false)

pub same_pairs-returns : goal.same_pairs-returns
same_pairs-returns t c =
    let ps = c.as_slice-pair-items.result.now in
    let qs = c.args.b.now.pairs in
    let lengths : length c.args.a.now.pairs ≡ length qs = sym c.len.ensures ∙ c.if-len.false
    ∙ c.len-2.ensures in
    sym (objects-lengths c.args.a.now.pairs qs lengths ∙ c.loop-pair.invariant
    ∙ ap (λ l. same_in (pair_trees l) (pair_trees qs)) (drop_of_length-le ps c.loop-pair-test.false))

pub same_value-same_items-requires : goal.same_value-same_items-requires
same_value-same_items-requires t c =
    (omega (arith, items_fall c.as_slice.ensures c.in-Array-Array.is-0 c.a.view_is, c.decreases), tt)

pub same_value-returns-in-Object-Object : goal.same_value-returns-in-Object-Object
same_value-returns-in-Object-Object t c =
    let told : c.same_pairs.result ≡ same c.args.a.now.tree c.args.b.now.tree =
    c.same_pairs.ensures
    ∙ ap (λ u. same u (object_tree c.in-Object-Object.y.pairs)) (object_shown refl c.in-Object-Object.is-0 c.a.view_is)
    ∙ ap (same c.args.a.now.tree) (object_shown refl c.in-Object-Object.is-1 c.b.view_is) in
    search rules
