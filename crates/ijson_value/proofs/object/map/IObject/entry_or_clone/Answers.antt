use Rattle.std.proofs.Common.{◌≡◌, ◌<◌, ◌≤◌, refl, ℕ, length, sym, None, inl, inr}
use Rattle.std.proofs.lemmas.Bool.{cases_lt}
use Rattle.ijson_table.specs.Store.{Store, at}
use Rattle.ijson_value.specs.WellFormed.{WellFormed}
use Rattle.ijson_value.proofs.pairs.Entries.{placed, finds_no_room, refused_same, is_at, is_absent}
use Rattle.ijson_value.proofs.object.map.IObject.entry_or_clone.Goals as goal
use Rattle.ijson_value.proofs.object.map.IObject.entry_or_clone.Goals.{In-None}

-- A length that is not at most 7 is greater than 7.
above : (n : ℕ) → (n ≤ 7 → ⊥) → 7 < n
above n h = elim (cases_lt 7 n) [ inl long ↦ long | inr short ↦ absurd (h short) ]

-- If the lookup of the key returns `None`, then the key is missing.
absent : (c : In-None) → at c.args.self.now.pairs c.args.key.now ≡ None
absent c = placed c.args.self.now.pairs c.as_str-text.ensures c.position_hashed.ensures.position c.in-None.is

pub returns-in-Some : goal.returns-in-Some
returns-in-Some c =
    let old : Store WellFormed = c.args.self.now in
    let o = is_at old c.args.key.now c.in-Some.index (placed old.pairs c.as_str-text.ensures c.position_hashed.ensures.position c.in-Some.is) in (
      (refl, λ w. refl, tt),
      record { same_object = refl; found = (o.there, refl); key = o.key; value = o.value; update = o.update; refused = tt; rests = tt },
    )

pub returns-in-Ok-reserve : goal.returns-in-Ok-reserve
returns-in-Ok-reserve c =
    let a = is_absent c.args.self.now c.args.key.now (absent (goal.at.returns-in-Ok-reserve c).In-None) in
    let r = c.in-Ok-reserve.ensures in let is = c.in-Ok.ensures.cases in let up = a.pushed r.pairs is in (
      (refl, λ w. refl, tt),
      record { same_object = refl; found = (a.gone, r.pairs, r.growth); key = is; value = a.none; update = up; refused = tt; rests = tt },
    )

pub returns-in-Err-reserve : goal.returns-in-Err-reserve
returns-in-Err-reserve c =
    let old : Store WellFormed = c.args.self.now in let new : Store WellFormed = c.reserve.new.self in
    let why = c.in-Err-reserve.why in let growth = c.in-Err-reserve.ensures.growth in
    let no_room = finds_no_room old c.args.key.now why new.capacity (absent (goal.at.returns-in-Err-reserve c).In-None) growth in (
      (refl, λ w. tt, refused_same old new why growth c.in-Err-reserve.ensures.pairs),
      record { same_object = tt; found = tt; key = tt; value = tt; update = tt; refused = inl no_room; rests = tt },
    )

pub returns-in-Err : goal.returns-in-Err
returns-in-Err c =
    let a = is_absent c.args.self.now c.args.key.now (absent (goal.at.returns-in-Err c).In-None) in
    let long = above (length c.args.key.now) c.in-Err.ensures.cases in (
      (refl, λ w. tt, refl),
      record { same_object = tt; found = tt; key = tt; value = tt; update = tt; refused = inr (sym a.none, long, refl); rests = tt },
    )
