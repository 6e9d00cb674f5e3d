use Rattle.std.proofs.Common.{◌≡◌, ℕ, sym, ap, subst, refl, ◌∙◌, Some, None}
use Rattle.std.specs.Prelude.{IsSome}
use Rattle.std.proofs.lemmas.Bool.{false≢true}
use Rattle.ijson_table.proofs.pairs.PairsByKey.{lookup-absent, lookup-found, position_within}
use Rattle.ijson_table.proofs.shifting.ListShiftOut.{shifted_lacks}
use Rattle.ijson_table.specs.Store.{Store, at, lookup, shift_out}
use Rattle.ijson_value.specs.WellFormed.{WellFormed}
use Rattle.ijson_value.proofs.pairs.Entries.{finds_no_room, key_there, placed, refused_same}
use Rattle.ijson_value.proofs.object.map.IObject.shift_insert.Goals as goal

pub insert_new-requires-clause-missing : goal.insert_new-requires-clause-missing
insert_new-requires-clause-missing c =
    let old : Store WellFormed = c.args.self.now in let key = c.args.key in let i : ℕ = c.in-Some.found in
    let found : at old.pairs key ≡ Some i = placed old.pairs c.as_str-text.ensures c.position_hashed.ensures.position c.in-Some.is in
    ap (λ ps. at ps key) c.shift_out-same.ensures.pairs
    ∙ (ap (at (shift_out old.pairs i)) (sym (key_there old.pairs key i found))
    ∙ shifted_lacks old.pairs i old.distinct (position_within old.pairs key i found))

pub returns-in-Some-clause-old : goal.returns-in-Some-clause-old
returns-in-Some-clause-old c =
    let old : Store WellFormed = c.args.self.now in
    sym (lookup-found old.pairs c.args.key c.in-Some.found c.shift_out-same.result
    (placed old.pairs c.as_str-text.ensures c.position_hashed.ensures.position c.in-Some.is) c.shift_out-same.ensures.pair)

pub returns-in-Some-clause-grows : goal.returns-in-Some-clause-grows
returns-in-Some-clause-grows c none =
    let old : Store WellFormed = c.args.self.now in
    let some : lookup c.args.key old.pairs ≡ Some c.shift_out-same.result.1 =
    lookup-found old.pairs c.args.key c.in-Some.found c.shift_out-same.result
    (placed old.pairs c.as_str-text.ensures c.position_hashed.ensures.position c.in-Some.is) c.shift_out-same.ensures.pair in
    absurd (false≢true (subst IsSome (sym some ∙ none) refl))

pub returns-in-Ok-clause-old : goal.returns-in-Ok-clause-old
returns-in-Ok-clause-old c =
    let old : Store WellFormed = c.args.self.now in
    sym (lookup-absent old.pairs c.args.key (placed old.pairs c.as_str-text.ensures c.position_hashed.ensures.position c.in-None.is))

pub returns-in-Ok-clause-stays : goal.returns-in-Ok-clause-stays
returns-in-Ok-clause-stays c some =
    let old : Store WellFormed = c.args.self.now in
    let none = lookup-absent old.pairs c.args.key (placed old.pairs c.as_str-text.ensures c.position_hashed.ensures.position c.in-None.is) in
    absurd (false≢true (subst IsSome none some))

pub returns-in-Err-clause-refused : goal.returns-in-Err-clause-refused
returns-in-Err-clause-refused c =
    let old : Store WellFormed = c.args.self.now in let new : Store WellFormed = c.reserve.new.self in
    let missing : at old.pairs c.args.key ≡ None = placed old.pairs c.as_str-text.ensures c.position_hashed.ensures.position c.in-None.is in (
      refl,
      refl,
      finds_no_room old c.args.key c.in-Err.why new.capacity missing c.in-Err.ensures.growth,
      refused_same old new c.in-Err.why c.in-Err.ensures.growth c.in-Err.ensures.pairs,
    )
