use Rattle.std.proofs.Common.{◌≡◌, ◌≤◌, [], ◌++◌, length, take, drop, arith, ap, subst, ◌∙◌}
use Rattle.std.proofs.Common.{append-nil}
use Rattle.std.proofs.lemmas.List.{drop_all, with_items_is}
use Rattle.ijson_table.specs.Growth.{capacity_limit}
use Rattle.ijson_table.specs.Store.{put_each}
use Rattle.ijson_table.proofs.pairs.PutEach.{put_each-behind}
use Rattle.ijson_table.proofs.table.Table.from_pairs_counted.Given.{Over}
use Rattle.ijson_table.proofs.table.Table.from_pairs_counted.Goals.{In_ok-capacity, After-remove_range, Else-read-capacity}
use Rattle.ijson_table.proofs.table.Table.from_pairs_counted.Goals as goal

-- The capacity is the number of pairs, which is at most the limit.
within : (g : Over) (c : In_ok-capacity g) → (c.in_ok-capacity.capacity ≡ length c.args.pairs.items)
    × (length c.args.pairs.items ≤ capacity_limit)
within g c =
    let len : c.len.result ≡ length c.args.pairs.items = c.len.ensures ∙ c.args.pairs.ok.0 in
    (c.in_ok-capacity.ensures.0 ∙ len, subst (λ n. n ≤ capacity_limit) len c.in_ok-capacity.ensures.1)

-- Inserting the pairs that remain in the list equals inserting all given pairs.
all_put : (g : Over) (c : After-remove_range g) → c.remove_range.new.list.items
    ≡ take c.put_in_place-kept.result.0 c.put_in_place-kept.new.pairs ++ drop c.put_in_place-kept.result.1 c.put_in_place-kept.new.pairs
    → put_each [] c.remove_range.new.list.items ≡ put_each [] c.args.pairs.items
all_put g c remaining =
    let kept = take c.put_in_place-kept.result.0 c.put_in_place-kept.new.pairs in
    ap (put_each []) remaining ∙ (put_each-behind kept (drop c.put_in_place-kept.result.1 c.put_in_place-kept.new.pairs)
    c.put_in_place-kept.ensures.placed.distinct ∙ (c.put_in_place-kept.ensures.pairs
    ∙ ap (put_each []) (c.deref_mut.ensures.value ∙ c.shrink_to_len.ensures.items)))

-- If all pairs were read, the pairs that remain in the list are the kept pairs.
all_read : (g : Over) (c : Else-read-capacity g) → c.in_ok-capacity.capacity ≡ length c.args.pairs.items → c.remove_range.new.list.items
    ≡ take c.put_in_place-kept.result.0 c.put_in_place-kept.new.pairs ++ drop c.put_in_place-kept.result.1 c.put_in_place-kept.new.pairs
    → c.remove_range.new.list.items ≡ take c.put_in_place-kept.result.0 c.put_in_place-kept.new.pairs
all_read g c exactly is =
    let kept = take c.put_in_place-kept.result.0 c.put_in_place-kept.new.pairs in
    is ∙ (ap (λ ps. kept ++ ps) (drop_all c.put_in_place-kept.result.1 c.put_in_place-kept.new.pairs (omega (
      arith,
      c.put_in_place-kept.auto.pairs,
      ap length c.deref_mut.ensures.value,
      ap length c.shrink_to_len.ensures.items,
      exactly,
      c.if-read-capacity.false,
    ))) ∙ append-nil kept)

pub returns-then-read-capacity-clause-pairs : goal.returns-then-read-capacity-clause-pairs
returns-then-read-capacity-clause-pairs g c =
    let same = with_items_is c.shrink_to_len.new.list c.put_in_place-kept.new.pairs
    (omega (arith, c.put_in_place-kept.auto.pairs, c.deref_mut.ensures.len)) in
    c.in_ok-from_pairs_sorted.ensures.pairs
    ∙ all_put g (goal.at.returns-then-read-capacity-clause-pairs g c).After-remove_range (cc c.remove_range.ensures.items)
