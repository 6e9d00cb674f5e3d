use Rattle.std.proofs.Common.{◌≡◌, ℕ, [], arith, get_or, Some, sym, ap, ◌∙◌}
use Rattle.ijson_table.proofs.pairs.OtherKeys.{with_same_key}
use Rattle.ijson_table.proofs.pairs.PairsByKey.{position_within}
use Rattle.ijson_table.specs.Store.{Store, at, keys_of, with_key}
use Rattle.ijson_value.specs.AtKey.{out_at}
use Rattle.ijson_value.specs.WellFormed.{WellFormed}
use Rattle.ijson_value.proofs.pairs.Entries.{is_there, key_there, placed}
use Rattle.ijson_value.proofs.object.map.IObject.replace_key.Goals as goal

pub returns-in-None-clause-replaces : goal.returns-in-None-clause-replaces
returns-in-None-clause-replaces c =
    let old : Store WellFormed = c.args.self.now in let from = c.args.old.now in let i : ℕ = c.in-Some.index in
    let found : at old.pairs from ≡ Some i = sym c.position.ensures.position ∙ c.in-Some.is in (
      c.replace_key_at.ensures.key ∙ key_there old.pairs from i found,
      is_there (at old.pairs from) i found,
      c.replace_key_at.ensures.pairs ∙ ap (λ o. out_at (λ ps k. with_key ps k c.args.new) o old.pairs) (sym found),
    )

pub returns-in-Some-position-clause-replaces : goal.returns-in-Some-position-clause-replaces
returns-in-Some-position-clause-replaces c =
    let old : Store WellFormed = c.args.self.now in let from = c.args.old.now in let to = c.args.new in let i : ℕ = c.in-Some.index in
    let found : at old.pairs from ≡ Some i = sym c.position.ensures.position ∙ c.in-Some.is in
    let there : at old.pairs to ≡ Some c.in-Some-position.found =
    placed old.pairs c.as_str.ensures c.position-2.ensures.position c.in-Some-position.is in
    let same : i ≡ c.in-Some-position.found = omega (arith, c.if-found-index.true) in
    let is : get_or (keys_of old.pairs) i [] ≡ to =
    ap (λ n. get_or (keys_of old.pairs) n []) same ∙ key_there old.pairs to c.in-Some-position.found there in (
      sym is ∙ key_there old.pairs from i found,
      is_there (at old.pairs from) i found,
      sym (with_same_key old.pairs i to (position_within old.pairs from i found) is)
          ∙ ap (λ o. out_at (λ ps k. with_key ps k to) o old.pairs) (sym found),
    )
