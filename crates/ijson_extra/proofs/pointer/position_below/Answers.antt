use Rattle.std.proofs.Common.{◌≡◌, ◌<◌, ◌^◌, true, rules}
use Rattle.ijson_extra.specs.Pointer.{names_position}
use Rattle.ijson_extra.proofs.tokens.Positions.{position_read}
use Rattle.ijson_extra.proofs.pointer.position_below.Goals as goal

pub returns-in_default-clause-none : goal.returns-in_default-clause-none
returns-in_default-clause-none c =
    let named : names_position c.args.token.now ≡ true = search rules in
    let short : c.args.count < 2 ^ 64 = search rules in
    rw c.in_default.is at (position_read c.args.token.now c.args.count c.parse.result c.parse.ensures.value.0 named short)
