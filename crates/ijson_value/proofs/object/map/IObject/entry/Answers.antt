use Rattle.std.proofs.Common.{◌≡◌, refl, None}
use Rattle.ijson_table.specs.Store.{Store, at}
use Rattle.ijson_value.specs.WellFormed.{WellFormed}
use Rattle.ijson_value.proofs.pairs.Entries.{placed, finds_no_room, refused_same, is_at, is_absent}
use Rattle.ijson_value.proofs.object.map.IObject.entry.Goals as goal
use Rattle.ijson_value.proofs.object.map.IObject.entry.Goals.{In-None}

-- If the lookup of the key returns `None`, then the key is missing.
absent : (c : In-None) → at c.args.self.now.pairs c.args.key ≡ None
absent c = placed c.args.self.now.pairs c.as_str-text.ensures c.position_hashed.ensures.position c.in-None.is

pub returns-in-Some : goal.returns-in-Some
returns-in-Some c =
    let old : Store WellFormed = c.args.self.now in
    let o = is_at old c.args.key c.in-Some.index (placed old.pairs c.as_str-text.ensures c.position_hashed.ensures.position c.in-Some.is) in (
      (refl, λ w. refl, tt),
      record { same_object = refl; found = (o.there, refl); key = o.key; value = o.value; update = o.update; refused = tt; rests = tt },
    )

pub returns-in-Ok : goal.returns-in-Ok
returns-in-Ok c =
    let a = is_absent c.args.self.now c.args.key (absent (goal.at.returns-in-Ok c).In-None) in
    let r = c.in-Ok.ensures in let up = a.pushed r.pairs refl in (
      (refl, λ w. refl, tt),
      record { same_object = refl; found = (a.gone, r.pairs, r.growth); key = refl; value = a.none; update = up; refused = tt; rests = tt },
    )

pub returns-in-Err : goal.returns-in-Err
returns-in-Err c =
    let old : Store WellFormed = c.args.self.now in let new : Store WellFormed = c.reserve.new.self in
    let why = c.in-Err.why in let growth = c.in-Err.ensures.growth in
    let no_room = finds_no_room old c.args.key why new.capacity (absent (goal.at.returns-in-Err c).In-None) growth in (
      (refl, λ w. tt, refused_same old new why growth c.in-Err.ensures.pairs),
      record { same_object = tt; found = tt; key = tt; value = tt; update = tt; refused = (refl, no_room); rests = tt },
    )
