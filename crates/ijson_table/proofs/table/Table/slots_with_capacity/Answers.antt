use Rattle.std.proofs.Common.{ℕ, ◌+◌, ◌-◌, ◌*◌, ◌≤◌, ◌^◌, length, arith, ap, ◌∙◌}
use Rattle.std.proofs.Math.Nat.{mul-le-mul_right}
use Rattle.ijson_table.specs.BuildBound.{looks_a_pair}
use Rattle.ijson_table.proofs.pairs.Shown.{pairs_shown}
use Rattle.ijson_table.proofs.table.Table.slots_with_capacity.Goals.{After-fill_sorted}
use Rattle.ijson_table.proofs.table.Table.slots_with_capacity.Goals as goal

-- The number of inspections of insertion and sorting is within the bound for building a table.
few : (g : _) (c : After-fill_sorted g) (k : ℕ) → c.args.capacity ≤ 2 ^ k
    → c.add_new_keys-placed.new.steps ≤ c.args.capacity * looks_a_pair
    → c.fill_sorted.new.looks - c.args.looks.now ≤ c.args.capacity * (looks_a_pair + 2 * k)
few g c k fits inserted =
    let within : length c.deref-2.result.now ≤ c.args.capacity =
    omega (arith, ap length (c.deref-2.ensures.value ∙ pairs_shown c.self.view_is), c.requires.room.within) in
    omega (
      arith,
      c.fill_sorted.ensures.bounded k (omega (arith, within, fits)),
      mul-le-mul_right k within,
      c.add.ensures,
      inserted,
    )

pub returns-in-Err-clause-bounded : goal.returns-in-Err-clause-bounded
returns-in-Err-clause-bounded g c k fits = few g (goal.at.returns-in-Err-clause-bounded g c).After-fill_sorted k fits
    (omega (arith, c.add_new_keys-placed.ensures.steps, c.in_ok-slots.ensures.count, c.slots_for-count.ensures))

pub returns-clause-bounded : goal.returns-clause-bounded
returns-clause-bounded g c k fits = few g (goal.at.returns-clause-bounded g c).After-fill_sorted k fits
    (omega (arith, c.add_new_keys-placed.ensures.steps, c.in_ok-slots.ensures.count, c.slots_for-count.ensures))
