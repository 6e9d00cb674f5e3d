use Rattle.std.proofs.Common.{◌∷◌, ℕ, List, [], length, sym, ap, ◌∙◌, arith, rules, length-append}
use Rattle.std.proofs.lemmas.Iterator.Adapters.{YieldsList-from_vec}
use Rattle.std.proofs.lemmas.Iterator.Consumers.{YieldsList-turn, YieldsList-end}
use Rattle.ijson_table.proofs.pairs.PutEach.{put_each-append, put-length}
use Rattle.ijson_table.proofs.pairs.RunSteps.{map-same}
use Rattle.ijson_table.specs.Store.{Store, put, put_each}
use Rattle.ijson_value.specs.WellFormed.{WellFormed}
use Rattle.ijson_value.proofs.object.map.IObject.try_from_pairs.Goals as goal

pub loop-key-init : goal.loop-key-init
loop-key-init c = (
  tt,
  tt,
  c.in-Ok.ensures.pairs,
  omega (arith, c.in-Ok.ensures.capacity, c.len.ensures, c.args.pairs.ok.0),
  omega (arith, ap length c.in-Ok.ensures.pairs),
)

-- Before each insertion, the object has spare capacity, because the list has another entry.
pub insert_within-requires : goal.insert_within-requires
insert_within-requires c =
    let gives = c.into_iter-key-iterator.ensures.into_iter_gives in
    let more = YieldsList-turn (YieldsList-from_vec c.args.pairs.items gives.0 (gives.1 ∙ c.args.pairs.ok.0)) c.loop-key.yielded
    c.loop-key.key-iterator c.loop-key.yielded_by c.next.result c.next.new.self (c.in-Some.key, c.in-Some.value) c.in-Some.is
    c.next.ensures.steps in
    let i = c.loop-key.invariant in
    omega (arith, more.0, i.3, i.4)

pub loop-key-preserved : goal.loop-key-preserved
loop-key-preserved c =
    let mid : Store WellFormed = c.loop-key.object in
    let done : List (List ℕ × WellFormed) = c.loop-key.yielded in
    let pair : List ℕ × WellFormed = (c.in-Some.key, c.in-Some.value) in
    let i = c.loop-key.invariant in (
      search rules,
      search rules,
      c.insert_within.ensures.pairs
          ∙ (ap (λ ps. put ps pair.0 pair.1) i.2 ∙ sym (put_each-append [] done (pair ∷ []))),
      c.insert_within.ensures.capacity ∙ i.3,
      omega (
        arith,
        ap length c.insert_within.ensures.pairs,
        put-length mid.pairs pair.0 pair.1,
        i.4,
        length-append done (pair ∷ []),
      ),
    )

pub returns-clause-pairs : goal.returns-clause-pairs
returns-clause-pairs c =
    let gives = c.into_iter-key-iterator.ensures.into_iter_gives in
    let end = YieldsList-end (YieldsList-from_vec c.args.pairs.items gives.0 (gives.1 ∙ c.args.pairs.ok.0)) c.loop-key.yielded
    c.loop-key.key-iterator c.loop-key.yielded_by c.next.result c.next.new.self c.in-None.is c.next.ensures.steps in
    c.loop-key.invariant.2 ∙ ap (put_each []) (sym (map-same c.loop-key.yielded) ∙ end.0)
