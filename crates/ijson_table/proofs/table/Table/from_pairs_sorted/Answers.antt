use Rattle.std.proofs.Common.{◌≤◌, ◌+◌, ◌*◌, ◌^◌, ℕ, [], length, arith, ap, sym, subst}
use Rattle.std.specs.Prelude.{vec_capacity}
use Rattle.ijson_table.specs.Store.{keys_of, IsDistinct}
use Rattle.ijson_table.proofs.building.BuildBounds.{sorted_once, sorted_twice}
use Rattle.ijson_table.proofs.pairs.PutEach.{put_each-distinct}
use Rattle.ijson_table.proofs.table.Table.from_pairs_sorted.Given.{Over}
use Rattle.ijson_table.proofs.table.Table.from_pairs_sorted.Goals as goal
use Rattle.ijson_table.proofs.table.Table.from_pairs_sorted.Goals.{After-deref, After-fill_sorted}

-- The second sort has at most as many pairs as the capacity.
fewer : (g : Over) (c : After-deref g) → length c.deref.result.now ≤ vec_capacity c.args.pairs
fewer g c = omega (arith, ap length c.deref.ensures.value, c.in-Ok.ensures.room, c.in-Ok.pairs.ok)

-- The number of inspections of both sorts is within the bound for the capacity.
both : (g : Over) (c : After-fill_sorted g) → length c.deref.result.now ≤ vec_capacity c.args.pairs → (k : ℕ) → vec_capacity c.args.pairs ≤ 2 ^ k
    → c.fill_sorted.new.looks ≤ c.args.looks.now + vec_capacity c.args.pairs * (1 + 2 * k)
both g c second k fits =
    sorted_twice (vec_capacity c.args.pairs) (length c.args.pairs.items) (length c.deref.result.now) k c.args.looks.now
    c.put_sorted.new.looks c.fill_sorted.new.looks (omega (arith, c.args.pairs.ok)) second
    (c.put_sorted.ensures.bounded k (omega (arith, c.args.pairs.ok, fits))) (c.fill_sorted.ensures.bounded k (omega (arith, second, fits)))

pub returns-in_default-clause-bounded : goal.returns-in_default-clause-bounded
returns-in_default-clause-bounded g c k fits =
    sorted_once (vec_capacity c.args.pairs) (length c.args.pairs.items) k c.args.looks.now c.put_sorted.new.looks
    (omega (arith, c.args.pairs.ok)) (c.put_sorted.ensures.bounded k (omega (arith, c.args.pairs.ok, fits)))

pub fill_sorted-requires-clause-fits : goal.fill_sorted-requires-clause-fits
fill_sorted-requires-clause-fits g c =
    let second = fewer g (goal.at.fill_sorted-requires-clause-fits g c).After-deref in
    omega (
      arith,
      second,
      c.put_sorted.ensures.bounded 56 (omega (arith, c.args.pairs.ok, c.requires.limited)),
      c.requires.fits,
      c.args.pairs.ok,
      c.requires.limited,
    )

pub returns-in-Err-clause-bounded : goal.returns-in-Err-clause-bounded
returns-in-Err-clause-bounded g c =
    let w = goal.at.returns-in-Err-clause-bounded g c in both g w.After-fill_sorted (fewer g w.After-deref)

pub invariant_of-result : goal.invariant_of-result
invariant_of-result g c = (subst (λ ps. IsDistinct (keys_of ps)) (sym c.in-Ok.ensures.pairs) (put_each-distinct [] c.args.pairs.items tt), tt)

pub returns-clause-bounded : goal.returns-clause-bounded
returns-clause-bounded g c =
    let w = goal.at.returns-clause-bounded g c in both g w.After-fill_sorted (fewer g w.After-deref)
