use Rattle.std.proofs.Common.{rules, arith, ◌+◌, ◌≡◌, ◌∙◌, ap, refl, sym, subst, length, add-one, FitsSigned, to_z, of_z, ◌+ℤ◌}
use Rattle.std.specs.Int.{w64}
use Rattle.std.proofs.lemmas.Int.{to_z-of_z}
use Rattle.ijson_value.specs.Kind.{kind_of}
use Rattle.ijson_value.specs.Length.{length_of}
use Rattle.ijson_value.specs.Values.{array_value}
use Rattle.ijson_value.specs.laws.Lengths.{array_length}
use Rattle.ijson_value.specs.laws.TreeLookups.{item_of_loop}
use Rattle.ijson.specs.examples.Invoice.{FirstAddTo, LacksAmount}
use Rattle.ijson.proofs.examples.invoice.invoice_total.Goals as goal

pub returns-in_default-amount_of-clause-no_amount : goal.returns-in_default-amount_of-clause-no_amount
returns-in_default-amount_of-clause-no_amount c = λ i is.
    let at : c.loop-i.i ≡ i = cc in
    let items = c.as_slice-item-items.result.now in
    let there = item_of_loop c.args.records.now items c.loop-i.i c.item-item.result
    (c.in-Some.ensures.some ∙ ap array_value (sym c.as_slice-item-items.ensures)) c.loop-i-test.true c.item-item.is in
    subst (λ n. LacksAmount c.args.records.now.tree n) at (c.item-item.result.tree, there, c.in_default-amount_of.ensures.none)

pub returns-in_default-checked_add-clause-too_large : goal.returns-in_default-checked_add-clause-too_large
returns-in_default-checked_add-clause-too_large c = λ _.
    let sum = to_z w64 c.loop-i.sum-bits in
    let amount = c.in-Some-amount_of.amount in
    let fits : FitsSigned w64 amount = search rules in
    let large = subst (λ z. FitsSigned w64 (sum +ℤ z) → ⊥) (to_z-of_z w64 amount fits) c.in_default-checked_add.ensures in
    let there = item_of_loop c.args.records.now c.as_slice-item-items.result.now c.loop-i.i c.item-item.result
    (c.in-Some.ensures.some ∙ ap array_value (sym c.as_slice-item-items.ensures)) c.loop-i-test.true c.item-item.is in (
      c.loop-i.i + 1,
      sum +ℤ amount,
      rw add-one (
        sum,
        amount,
        c.loop-i.invariant.so_far,
        (c.item-item.result.tree, there, c.in-Some-amount_of.ensures.some),
        refl,
      ),
      large,
    )

pub loop-i-preserved : goal.loop-i-preserved
loop-i-preserved c =
    let sum = to_z w64 c.loop-i.sum-bits in
    let amount = c.in-Some-amount_of.amount in
    let added = c.in-Some-checked_add.ensures in
    let fits : FitsSigned w64 amount = search rules in
    let fits_more : FitsSigned w64 c.in-Some-checked_add.more = subst (λ z. FitsSigned w64 z) (sym added.1) added.0 in
    let e : to_z w64 (of_z w64 c.in-Some-checked_add.more) ≡ sum +ℤ amount =
    to_z-of_z w64 c.in-Some-checked_add.more fits_more ∙ (added.1 ∙ ap (λ z. sum +ℤ z) (to_z-of_z w64 amount fits)) in
    let there = item_of_loop c.args.records.now c.as_slice-item-items.result.now c.loop-i.i c.item-item.result
    (c.in-Some.ensures.some ∙ ap array_value (sym c.as_slice-item-items.ensures)) c.loop-i-test.true c.item-item.is in
    record {
      within = omega arith;
      so_far = rw add-one (
        sum,
        amount,
        c.loop-i.invariant.so_far,
        (c.item-item.result.tree, there, c.in-Some-amount_of.ensures.some),
        e,
      );
    }

pub returns-clause-total : goal.returns-clause-total
returns-clause-total c =
    let items = c.as_slice-item-items.result.now in
    let sum = to_z w64 c.loop-i.sum-bits in
    let all : c.loop-i.i ≡ length items = omega arith in
    let whole = c.in-Some.ensures.some ∙ ap array_value (sym c.as_slice-item-items.ensures) in
    let added = subst (λ n. FirstAddTo c.args.records.now.tree n sum) all c.loop-i.invariant.so_far in
    (length items, ap (λ v. kind_of v.tree) whole, ap (λ v. length_of v.tree) whole ∙ sym (array_length items), added)
