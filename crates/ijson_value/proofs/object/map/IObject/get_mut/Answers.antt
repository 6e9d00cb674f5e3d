use Rattle.std.proofs.Common.{◌≡◌, ℕ, refl, sym, ap, ◌∙◌, Some, None, inl}
use Rattle.ijson_table.specs.Store.{Store, at}
use Rattle.ijson_table.proofs.pairs.PairsByKey.{lookup-found, lookup-absent}
use Rattle.ijson_value.specs.LendsAtKey.{with_found}
use Rattle.ijson_value.specs.WellFormed.{WellFormed}
use Rattle.ijson_value.proofs.object.map.IObject.get_mut.Goals as goal

pub returns-in-Some : goal.returns-in-Some
returns-in-Some g c =
    let now : Store WellFormed = c.args.self.now in let key = g.I.Sealed.key c.args.key in let i : ℕ = c.in-Some.index in
    let found : at now.pairs key ≡ Some i = ap (at now.pairs) (sym c.as_key.ensures) ∙ sym c.position.ensures.position ∙ c.in-Some.is in
    let got = c.value_mut.ensures.value in (
      ap (λ o. inl (c.value_mut.result.ghost_name, λ w. with_found now o w)) (sym found),
      record { writes_back = tt; value = sym (lookup-found now.pairs key i (got.0, c.value_mut.result.now) found got.1) },
    )

pub returns-in-None : goal.returns-in-None
returns-in-None g c =
    let now : Store WellFormed = c.args.self.now in let key = g.I.Sealed.key c.args.key in
    let missing : at now.pairs key ≡ None = ap (at now.pairs) (sym c.as_key.ensures) ∙ sym c.position.ensures.position ∙ c.in-None.is in
    (refl, record { writes_back = tt; value = sym (lookup-absent now.pairs key missing) })
