use Rattle.std.proofs.Common.{◌≡◌, length, refl, ap, sym, ◌∙◌, subst, Some, None}
use Rattle.ijson_table.specs.Growth.{Grown}
use Rattle.ijson_table.specs.Store.{at, with_value}
use Rattle.ijson_table.proofs.pairs.NewPairs.{put_last}
use Rattle.ijson_table.proofs.pairs.PairsByKey.{lookup-absent, position_within}
use Rattle.ijson_table.proofs.pairs.Replaced.{replaced}
use Rattle.ijson_table.proofs.store.insert.Goals.{In-Some}
use Rattle.ijson_table.proofs.store.insert.Goals as goal

-- The index that was found is the index of the key.
found : (g : _) (c : In-Some g) → at (g.P.PairStore.pairs c.args.store.now) c.args.key ≡ Some c.in-Some.at
found g c = ap (at (g.P.PairStore.pairs c.args.store.now)) (sym c.as_str.ensures) ∙ sym c.in-Some.ensures

pub value_mut-requires : goal.value_mut-requires
value_mut-requires g c = position_within (g.P.PairStore.pairs c.args.store.now) c.args.key c.in-Some.at
    (found g (goal.at.value_mut-requires g c).In-Some)

pub returns-in-Some : goal.returns-in-Some
returns-in-Some g c =
    let before = g.P.PairStore.pairs c.args.store.now in
    let law = g.met.P.PairStore.set_value_is c.args.store.now c.in-Some.at c.replace.new.dest in
    let told = c.value_mut.ensures.value in
    let kept = replaced before _ c.in-Some.at (told.0, c.value_mut.result.now) c.args.key c.args.value c.replace.result told.1
    c.replace.ensures.value (law.0 ∙ ap (with_value before c.in-Some.at) c.replace.ensures.after)
    (found g (goal.at.returns-in-Some g c).In-Some) in
    (kept.0, kept.1, law.1)

pub returns-in-Err : goal.returns-in-Err
returns-in-Err g c =
    let before = g.P.PairStore.pairs c.args.store.now in
    let missing : at before c.args.key ≡ None = ap (at before) (sym c.as_str.ensures) ∙ sym c.in_default.ensures in
    (lookup-absent before c.args.key missing, refl, refl, c.in-Err.ensures.pairs, c.in-Err.ensures.grown)

pub returns : goal.returns
returns g c =
    let before = g.P.PairStore.pairs c.args.store.now in
    let missing : at before c.args.key ≡ None = ap (at before) (sym c.as_str.ensures) ∙ sym c.in_default.ensures in (
      lookup-absent before c.args.key missing,
      put_last c.args.key c.args.value c.in_default-reserve.ensures.pairs c.push_new.ensures.pairs refl missing,
      subst (λ r. Grown (length before) (g.P.PairStore.room c.args.store.now) 1 r)
          (sym c.push_new.ensures.room) c.in_default-reserve.ensures.grown,
    )
