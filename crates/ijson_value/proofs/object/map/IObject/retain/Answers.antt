use Rattle.std.proofs.Common.{◌≡◌, ◌<◌, ℕ, length, ◌+◌, ◌-◌, true, false, refl, sym, ap, subst, ◌∙◌, arith, rules}
use Rattle.std.specs.Map.Calls.{CalledAtPair, TakesPair}
use Rattle.ijson_table.specs.Store.{Store, with_value, swap_out}
use Rattle.ijson_table.proofs.pairs.PairsByKey.{length-swap_out, keys-length}
use Rattle.ijson_value.specs.MayAsk.{MayAskFrom}
use Rattle.ijson_value.specs.Retains.{RetainsFrom}
use Rattle.ijson_value.specs.WellFormed.{WellFormed}
use Rattle.ijson_value.specs.laws.EntryValid.{length-with_value}
use Rattle.ijson_value.proofs.pairs.Retained.{kept, gone, swap_out_written, may_ask_next, asks_now}
use Rattle.ijson_value.proofs.object.map.IObject.retain.Goals as goal

pub loop-index-init : goal.loop-index-init
loop-index-init g c =
    let start : Store WellFormed = c.args.self.now in let all : length start.pairs - 0 ≡ length start.pairs = omega arith in
    (c.requires, refl, omega arith, λ qs h. subst (λ k. RetainsFrom (CalledAtPair g.F.FnMut) k c.args.keep 0 start.pairs qs) all h)

pub keep-requires : goal.keep-requires
keep-requires g c =
    let now : Store WellFormed = c.loop-index.self in
    asks_now (CalledAtPair g.F.FnMut) (TakesPair g.F.FnMut) c.loop-index.keep c.loop-index.index now.pairs _ _ c.loop-index.invariant.0
    c.pair_mut-value.ensures.pair _ _ refl refl

pub loop-index-smaller-then-keep : goal.loop-index-smaller-then-keep
loop-index-smaller-then-keep g c =
    let now : Store WellFormed = c.loop-index.self in
    omega (arith, c.loop-index-test.true, c.len.ensures, length-with_value now.pairs c.loop-index.index c.keep.new.arg3)

pub loop-index-preserved-then-keep : goal.loop-index-preserved-then-keep
loop-index-preserved-then-keep g c =
    let now : Store WellFormed = c.loop-index.self in let i : ℕ = c.loop-index.index in let w : WellFormed = c.keep.new.arg3 in
    let was = c.loop-index.invariant in
    let size = length-with_value now.pairs i w in
    let asked : CalledAtPair g.F.FnMut c.loop-index.keep c.pair_mut-value.result.0.now c.pair_mut-value.result.1.now true w
    c.keep.new.self = record { key = _; value = _; shows = (refl, refl); left = _; called = c.if-keep.ensures; leaves = refl } in (
      may_ask_next (CalledAtPair g.F.FnMut) (TakesPair g.F.FnMut) _ _ i now.pairs _ _ true w was.0 c.pair_mut-value.ensures.pair asked,
      was.1,
      omega (arith, c.loop-index-test.true, c.len.ensures, size),
      λ qs h. was.3 qs (kept (CalledAtPair g.F.FnMut) (length now.pairs - i) (length (with_value now.pairs i w) - (i + 1)) c.loop-index.keep
          c.keep.new.self i now.pairs qs _ _ w (omega (arith, c.loop-index-test.true, c.len.ensures, size)) c.pair_mut-value.ensures.pair
          asked h),
    )

pub swap_out-requires : goal.swap_out-requires
swap_out-requires g c =
    let now : Store WellFormed = c.loop-index.self in
    omega (arith, c.loop-index-test.true, c.len.ensures, length-with_value now.pairs c.loop-index.index c.keep.new.arg3)

pub loop-index-smaller : goal.loop-index-smaller
loop-index-smaller g c =
    let now : Store WellFormed = c.loop-index.self in let new : Store WellFormed = c.swap_out.new.self in let i : ℕ = c.loop-index.index in
    let w : WellFormed = c.keep.new.arg3 in
    let size = length-with_value now.pairs i w in
    let within : i < length now.pairs = omega (arith, c.loop-index-test.true, c.len.ensures) in
    let shorter = length-swap_out (with_value now.pairs i w) i (omega (arith, within, size)) in
    omega (arith, within, size, shorter, ap length c.swap_out.ensures.pairs, keys-length (swap_out (with_value now.pairs i w) i))

pub loop-index-preserved : goal.loop-index-preserved
loop-index-preserved g c =
    let now : Store WellFormed = c.loop-index.self in let new : Store WellFormed = c.swap_out.new.self in let i : ℕ = c.loop-index.index in
    let w : WellFormed = c.keep.new.arg3 in
    let was = c.loop-index.invariant in
    let size = length-with_value now.pairs i w in
    let within : i < length now.pairs = omega (arith, c.loop-index-test.true, c.len.ensures) in
    let shorter = length-swap_out (with_value now.pairs i w) i (omega (arith, within, size)) in
    let is : new.pairs ≡ swap_out (with_value now.pairs i w) i = c.swap_out.ensures.pairs in
    let count : length new.pairs + 1 ≡ length now.pairs =
    omega (arith, size, shorter, ap length is, keys-length (swap_out (with_value now.pairs i w) i)) in
    let asked : CalledAtPair g.F.FnMut c.loop-index.keep c.pair_mut-value.result.0.now c.pair_mut-value.result.1.now false w
    c.keep.new.self = record { key = _; value = _; shows = (refl, refl); left = _; called = c.if-keep.ensures; leaves = refl } in
    let next : MayAskFrom (CalledAtPair g.F.FnMut) (TakesPair g.F.FnMut) c.keep.new.self i new.pairs =
    rw (is, swap_out_written now.pairs i w within)
    (may_ask_next (CalledAtPair g.F.FnMut) (TakesPair g.F.FnMut) _ _ i now.pairs _ _ false w was.0 c.pair_mut-value.ensures.pair asked) in (
      search (rules, next),
      c.swap_out.ensures.capacity ∙ was.1,
      omega (arith, within, count),
      λ qs h. was.3 qs (gone (CalledAtPair g.F.FnMut) (length now.pairs - i) (length new.pairs - i) c.loop-index.keep c.keep.new.self i
          now.pairs qs _ _ w (omega (arith, within, count)) c.pair_mut-value.ensures.pair asked
          (subst (λ ps. RetainsFrom (CalledAtPair g.F.FnMut) (length new.pairs - i) c.keep.new.self i ps qs) (is
          ∙ swap_out_written now.pairs i w within) h)),
    )

pub returns-clause-pairs : goal.returns-clause-pairs
returns-clause-pairs g c =
    let now : Store WellFormed = c.loop-index.self in let i : ℕ = c.loop-index.index in
    let none : length now.pairs - i ≡ 0 = omega (arith, c.loop-index-test.false, c.len.ensures) in
    c.loop-index.invariant.3 now.pairs (subst (λ k. RetainsFrom (CalledAtPair g.F.FnMut) k c.loop-index.keep i now.pairs now.pairs)
    (sym none) refl)
