use Rattle.std.proofs.Common.{◌≡◌, ◌<◌, ◌++◌, [], ◌∷◌, length, arith, rules, sym, ap, subst, ◌∙◌, Err}
use Rattle.std.specs.Prelude.{◌↔◌, IfOk}
use Rattle.std.proofs.lemmas.Result.{IfOk-weaker}
use Rattle.ijson_table.specs.Growth.{capacity_limit}
use Rattle.ijson_table.specs.declared.store.ReserveError.TheVariants.{TooLarge}
use Rattle.ijson_table.proofs.pairs.PutEach.{put_each-new}
use Rattle.ijson_table.specs.Store.{put_each}
use Rattle.ijson_value.specs.Gives.{GivesAll}
use Rattle.ijson_value.proofs.object.map.IObject.from_distinct_pairs.Goals as goal

-- Before each push, the list has spare capacity, because the source yields another entry.
pub push_reserved-requires : goal.push_reserved-requires
push_reserved-requires g c =
    let so_far = c.loop-pair.invariant in
    let more = c.requires.gives.fewer c.loop-pair.yielded c.in-Some.pair (
      _,
      c.next.new.self,
      c.into_iter-pair-iterator.ensures.into_iter_gives,
      (c.loop-pair.pair-iterator, c.loop-pair.yielded_by, c.in-Some.ensures.steps),
    ) in
    omega (arith, more, ap length so_far.2, so_far.3, c.loop-pair.list.ok.0)

pub loop-pair-preserved : goal.loop-pair-preserved
loop-pair-preserved g c = (
  search rules,
  search rules,
  c.push_reserved.ensures.items ∙ ap (λ l. l ++ c.in-Some.pair ∷ []) c.loop-pair.invariant.2,
  c.push_reserved.ensures.capacity ∙ c.loop-pair.invariant.3,
)

-- The object has the yielded entries, because their keys are distinct.
pub returns-clause-pairs : goal.returns-clause-pairs
returns-clause-pairs g c =
    let yielded = c.loop-pair.yielded in
    let gives : GivesAll g.I.IntoIterator.into_iter_gives g.I.IntoIter.Iterator.next_gives c.args.pairs yielded = search rules in
    let last = ap (put_each []) c.loop-pair.invariant.2 ∙ put_each-new [] yielded (c.requires.gives.all yielded gives).0 in
    IfOk-weaker c.from_pairs.result _ _ (λ object made.
    subst (GivesAll g.I.IntoIterator.into_iter_gives g.I.IntoIter.Iterator.next_gives c.args.pairs) (sym (made ∙ last)) gives)
    c.from_pairs.ensures.pairs

-- The capacity of the object is `count`, because the source yields `count` entries.
pub returns-clause-capacity : goal.returns-clause-capacity
returns-clause-capacity g c =
    let yielded = c.loop-pair.yielded in
    let gives : GivesAll g.I.IntoIterator.into_iter_gives g.I.IntoIter.Iterator.next_gives c.args.pairs yielded = search rules in
    subst (λ n. IfOk c.from_pairs.result (λ object. object.capacity ≡ n))
    (ap length c.loop-pair.invariant.2 ∙ (c.requires.gives.all yielded gives).1) c.from_pairs.ensures.capacity

pub returns-clause-too_large : goal.returns-clause-too_large
returns-clause-too_large g c =
    let yielded = c.loop-pair.yielded in
    let gives : GivesAll g.I.IntoIterator.into_iter_gives g.I.IntoIter.Iterator.next_gives c.args.pairs yielded = search rules in
    subst (λ n. (c.from_pairs.result ≡ Err TooLarge) ↔ (capacity_limit < n))
    (ap length c.loop-pair.invariant.2 ∙ (c.requires.gives.all yielded gives).1) c.from_pairs.ensures.too_large

pub returns-clause-none : goal.returns-clause-none
returns-clause-none g c = λ e.
    let yielded = c.loop-pair.yielded in
    let gives : GivesAll g.I.IntoIterator.into_iter_gives g.I.IntoIter.Iterator.next_gives c.args.pairs yielded = search rules in
    c.from_pairs.ensures.none (ap length c.loop-pair.invariant.2 ∙ (c.requires.gives.all yielded gives).1 ∙ e)
