use Rattle.std.proofs.Common.{◌≢◌, ◌≤◌, length, Some, arith, sym, ap, ◌∙◌}
use Rattle.ijson_value.proofs.DepthLemmas.{items_fall}
use Rattle.ijson_value.specs.Kind.{kind_of}
use Rattle.ijson_value.proofs.comparing.KindsApart.{kinds_cmp, other_kind}
use Rattle.ijson_value.proofs.comparing.OrderSteps.{second_ended, first_ended}
use Rattle.ijson_value.proofs.order.+order.Goals as goal
use Rattle.ijson_value.proofs.order.+order.Goals.{value_cmp-in_default-via-in-Null+in_default}
use Rattle.ijson_value.proofs.order.+order.Goals.{value_cmp-in_default-via-in-Bool+in_default}
use Rattle.ijson_value.proofs.order.+order.Goals.{value_cmp-in_default-via-in-Number+in_default}
use Rattle.ijson_value.proofs.order.+order.Goals.{value_cmp-in_default-via-in-String+in_default}
use Rattle.ijson_value.proofs.order.+order.Goals.{value_cmp-in_default-via-in-Array+in_default}
use Rattle.ijson_value.proofs.order.+order.Goals.{value_cmp-in_default-via-in-Object+in_default}

pub value_cmp-items_cmp-requires : goal.value_cmp-items_cmp-requires
value_cmp-items_cmp-requires t c =
    (omega (arith, items_fall c.as_slice.ensures c.in-Array-Array.is-0 c.a.view_is, c.decreases), tt)

pub items_cmp-returns-then-i-ys : goal.items_cmp-returns-then-i-ys
items_cmp-returns-then-i-ys t c =
    let ended : length c.args.ys.now ≤ c.loop-i.i = omega arith in
    sym (c.loop-i.invariant.left ∙ second_ended c.args.xs.now c.args.ys.now c.loop-i.i ended c.loop-i-test.true)

pub items_cmp-returns : goal.items_cmp-returns
items_cmp-returns t c =
    let within : c.loop-i.i ≤ length c.args.xs.now = omega arith in
    ap Some c.cmp.ensures
    ∙ sym (c.loop-i.invariant.left
    ∙ first_ended c.args.xs.now c.args.ys.now c.loop-i.i within c.loop-i-test.false c.loop-i.invariant.within)

pub value_cmp-returns-in_default : goal.value_cmp-returns-in_default
value_cmp-returns-in_default t c =
    let a = c.a.view_is in let b = c.b.view_is in
    let apart : kind_of c.args.a.now.tree ≢ kind_of c.args.b.now.tree = elim c.in_default.branch [
      | value_cmp-in_default-via-in-Null+in_default w ↦ other_kind _ a b w.in_default.is-0 w.in_default.not-Null-1
      | value_cmp-in_default-via-in-Bool+in_default w ↦ other_kind _ a b w.in_default.is-0 w.in_default.not-Bool-1
      | value_cmp-in_default-via-in-Number+in_default w ↦ other_kind _ a b w.in_default.is-0 w.in_default.not-Number-1
      | value_cmp-in_default-via-in-String+in_default w ↦ other_kind _ a b w.in_default.is-0 w.in_default.not-String-1
      | value_cmp-in_default-via-in-Array+in_default w ↦ other_kind _ a b w.in_default.is-0 w.in_default.not-Array-1
      | value_cmp-in_default-via-in-Object+in_default w ↦ other_kind _ a b w.in_default.is-0 w.in_default.not-Object-1
    ] in
    kinds_cmp c.args.a.now.tree c.args.b.now.tree c.type_.result c.type_-in_default.result c.cmp-in_default.result c.type_.ensures
    c.type_-in_default.ensures c.cmp-in_default.ensures apart
