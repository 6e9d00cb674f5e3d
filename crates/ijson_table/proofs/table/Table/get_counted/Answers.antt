use Rattle.std.proofs.Common.{◌≡◌, ℕ, Some, List, map, arith, ap, sym, ◌∙◌}
use Rattle.ijson_table.specs.Store.{at, keys_of, lookup}
use Rattle.ijson_table.proofs.pairs.Shown.{count_shown, pairs_shown}
use Rattle.ijson_table.proofs.pairs.PairsByKey.{position_within, lookup-position, lookup-absent}
use Rattle.ijson_table.proofs.probing.ProbeEnds.{found_at-ends}
use Rattle.ijson_table.proofs.table.Table.get_counted.Goals.{After-found}
use Rattle.ijson_table.proofs.table.Table.get_counted.Goals as goal

-- The lookup finds the index of the key.
told : (g : _) (c : After-found g) → at c.args.self.now.store.pairs c.args.key.now ≡ c.found.result
told g c =
    let keys = keys_of c.args.self.now.store.pairs in
    sym (found_at-ends (map g.H.KeyHash.hash_of keys) keys c.args.self.now.slots (g.H.KeyHash.hash_of c.args.key.now) c.args.key.now
    c.find.result.0 c.find.ensures.ends) ∙ sym c.found.ensures

pub index-requires : goal.index-requires
index-requires g c = omega (
  arith,
  position_within c.args.self.now.store.pairs c.args.key.now c.in-Some.at
      (told g (goal.at.index-requires g c).After-found ∙ c.in-Some.is),
  count_shown c.self.view_is,
  c.self.inside.pairs.ok.0,
)

pub returns-in-Some-clause-value : goal.returns-in-Some-clause-value
returns-in-Some-clause-value g c =
    let pairs = c.args.self.now.store.pairs in
    let old = c.self.inside.pairs.items in
    let key : List ℕ = c.args.key.now in
    let viewed : old ≡ pairs = pairs_shown c.self.view_is in
    let found : at old key ≡ Some c.in-Some.at =
    ap (λ ps. at ps key) viewed ∙ (told g (goal.at.returns-in-Some-clause-value g c).After-found ∙ c.in-Some.is) in
    sym (lookup-position old key c.in-Some.at c.index.result.now found (position_within old key c.in-Some.at found) c.index.ensures)
    ∙ ap (lookup key) viewed

pub returns-in-None-clause-value : goal.returns-in-None-clause-value
returns-in-None-clause-value g c = sym (lookup-absent c.args.self.now.store.pairs c.args.key.now
    (told g (goal.at.returns-in-None-clause-value g c).After-found ∙ c.in-None.is))
