use Rattle.std.proofs.Common.{◌≤◌, length}
use Rattle.ijson.specs.examples.Invoice.{FirstAddTo}
use Rattle.ijson.proofs.examples.invoice.invoice_total.Given as goal

-- `sum` is the sum of the amounts of the elements so far.
abbrev pub invariant-loop-i : goal.invariant-loop-i
invariant-loop-i l = record {
  within : l.i ≤ length l.item-items;
  so_far : FirstAddTo l.records.tree l.i l.sum;
}
