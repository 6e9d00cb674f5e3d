use Rattle.std.proofs.Common.{ℕ, get_or, arith, ap, subst, sym}
use Rattle.ijson_table.specs.Store.{keys_of}
use Rattle.ijson_table.specs.private.EntryOrder.{IsEarlier}
use Rattle.ijson_table.specs.private.Sorting.{past_last}
use Rattle.ijson_table.proofs.firsts.KeyRuns.{all_told, goes_on, is_position, other_key, same_key}
use Rattle.ijson_table.proofs.sorting.earlier.earlier_positions.Goals as goal
use Rattle.ijson_table.proofs.sorting.earlier.earlier_positions.Goals.{then-not-has_same_key, else-not-has_same_key}

pub index_mut-requires : goal.index_mut-requires
index_mut-requires g c = omega (
  arith,
  is_position (keys_of c.args.pairs.now) c.args.sorted.now c.requires.entries.2 c.loop-entry.entry-index c.loop-entry-test.true,
  c.loop-entry.invariant.so_far.count,
  c.loop-entry.earlier.ok.0,
)

pub loop-entry-preserved : goal.loop-entry-preserved
loop-entry-preserved g c =
    let keys = keys_of c.args.pairs.now in
    let sorted = c.args.sorted.now in
    let k : ℕ = c.loop-entry.entry-index in
    let p : ℕ = (get_or sorted k past_last).index in
    let last = c.loop-entry.last in
    let so_far = c.loop-entry.invariant.so_far in
    let s = c.requires.entries.2 in
    let is : IsEarlier keys p c.if-not-has_same_key.last.index = elim c.if-not-has_same_key.branch [
      | then-not-has_same_key w ↦ subst (IsEarlier keys p) (sym (ap (λ entry. entry.index) w.last-is))
          (other_key keys sorted s k last c.loop-entry-test.true so_far.last_is (λ both.
          let yes_it_is = c.has_same_key.ensures.1 both in
          let no_it_is = w.if-not-has_same_key.true in
          cc (yes_it_is, no_it_is)))
      | else-not-has_same_key w ↦ subst (IsEarlier keys p) (sym (ap (λ entry. entry.index) w.last-is))
          (same_key keys sorted s k last c.loop-entry-test.true so_far.last_is (c.has_same_key.ensures.0 w.if-not-has_same_key.false))
    ] in
    record {
      so_far = goes_on keys sorted s k c.if-not-has_same_key.last.index last c.loop-entry.earlier.items c.loop-entry-test.true so_far is;
      looked = omega (arith, c.add_one.ensures, c.loop-entry.invariant.looked);
    }

pub returns-clause-earlier : goal.returns-clause-earlier
returns-clause-earlier g c =
    all_told (keys_of c.args.pairs.now) c.args.sorted.now c.requires.entries.2
    c.loop-entry.entry-index c.loop-entry.last c.loop-entry.earlier.items c.loop-entry-test.false c.loop-entry.invariant.so_far
