use Rattle.std.proofs.Common.{◌≡◌, Some, None, arith, ap, sym, ◌∙◌}
use Rattle.ijson_table.specs.Store.{Store, at, lookup}
use Rattle.ijson_table.proofs.pairs.PairsByKey.{lookup-position, lookup-absent, position_within}
use Rattle.ijson_table.proofs.linear.LinearPairs.get.Goals.{In-Some}
use Rattle.ijson_table.proofs.linear.LinearPairs.get.Goals as goal

-- The index that was found is the index of the key.
found : (g : _) (c : In-Some g) → at c.self.inside.pairs.items c.args.key.now ≡ Some c.in-Some.index
found g c = ap (λ ps. at ps c.args.key.now) (sym c.deref.ensures.value) ∙ sym c.in-Some.ensures

pub index-requires : goal.index-requires
index-requires g c =
    let within = position_within c.self.inside.pairs.items c.args.key.now c.in-Some.index (found g (goal.at.index-requires g c).In-Some) in
    omega (arith, within)

pub returns-in-Some : goal.returns-in-Some
returns-in-Some g c =
    let old = c.self.inside.pairs.items in
    let is = found g (goal.at.returns-in-Some g c).In-Some in
    sym (lookup-position old c.args.key.now c.in-Some.index c.index.result.now is
    (position_within old c.args.key.now c.in-Some.index is) c.index.ensures)
    ∙ ap (λ (s : Store g.row.V.Denot). lookup c.args.key.now s.pairs) c.self.view_is

pub returns-in-None : goal.returns-in-None
returns-in-None g c =
    let missing : at c.self.inside.pairs.items c.args.key.now ≡ None =
    ap (λ ps. at ps c.args.key.now) (sym c.deref.ensures.value) ∙ sym c.in-None.ensures in
    sym (lookup-absent c.self.inside.pairs.items c.args.key.now missing)
    ∙ ap (λ (s : Store g.row.V.Denot). lookup c.args.key.now s.pairs) c.self.view_is
