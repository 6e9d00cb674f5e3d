use Rattle.std.proofs.Common.{◌≡◌, ℕ, refl, sym, ap, subst, ◌∙◌, Some}
use Rattle.std.specs.Prelude.{IsSome}
use Rattle.ijson_table.specs.Store.{Store, at}
use Rattle.ijson_table.proofs.pairs.PairsByKey.{lookup-found, position_within}
use Rattle.ijson_value.specs.LendsAtKey.{with_found}
use Rattle.ijson_value.specs.WellFormed.{WellFormed}
use Rattle.ijson_value.proofs.pairs.PairLookups.{at-some}
use Rattle.ijson_value.proofs.object.index.IObjectIndexMut.index_mut.Goals as goal

pub unwrap-found-requires : goal.unwrap-found-requires
unwrap-found-requires g c =
    let now : Store WellFormed = c.args.self.now in
    subst IsSome (ap (at now.pairs) (sym c.as_key.ensures) ∙ sym c.position.ensures.position)
    (at-some now.pairs (g.I.Sealed.key c.args.index) c.requires)

pub value_mut-requires : goal.value_mut-requires
value_mut-requires g c =
    let now : Store WellFormed = c.args.self.now in
    position_within now.pairs c.as_key.result.now c.unwrap-found.result (sym c.position.ensures.position ∙ c.unwrap-found.ensures)

pub returns : goal.returns
returns g c =
    let now : Store WellFormed = c.args.self.now in let key = g.I.Sealed.key c.args.index in let i : ℕ = c.unwrap-found.result in
    let found : at now.pairs key ≡ Some i = ap (at now.pairs) (sym c.as_key.ensures) ∙ sym c.position.ensures.position
    ∙ c.unwrap-found.ensures in
    let got = c.value_mut.ensures.value in (
      (refl, λ w. ap (λ o. with_found now o w) (sym found)),
      record { writes_back = tt; value = lookup-found now.pairs key i (got.0, c.value_mut.result.now) found got.1 },
    )
