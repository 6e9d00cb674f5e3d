-- `HasRoom` is a proposition.
use Rattle.std.specs.Prelude.{ℕ, ◌≤◌}
use denote.Struct.Props.{props}
use Rattle.ijson_table.specs.Growth.{capacity_limit}
use Rattle.ijson_table.specs.private.Room.{HasRoom}

pub HasRoom-prop : (len c : ℕ) → IsProp (HasRoom len c)
HasRoom-prop len c x y =
    let within_prop : IsProp (len ≤ c) = hlevel props in
    let limited_prop : IsProp (c ≤ capacity_limit) = hlevel props in
    λ i. record { within = within_prop x.within y.within i; limited = limited_prop x.limited y.limited i }
