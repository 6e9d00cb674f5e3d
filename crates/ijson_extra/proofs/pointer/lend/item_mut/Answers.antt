use Rattle.std.proofs.Common.{refl}
use Rattle.ijson_extra.proofs.tokens.NamedParts.{item_found, item_put, item_missing}
use Rattle.ijson_extra.proofs.pointer.lend.item_mut.Goals as goal

pub returns-in-Some : goal.returns-in-Some
returns-in-Some c =
    let array = c.args.array.now in let token = c.args.token.now in let i = c.in-Some.position in
    let v = c.index_mut.result.now in let named = c.in-Some.ensures.some.0 in let there = c.index_mut.ensures.item in (
      (refl, item_put array token i v named there, refl),
      item_found array token i v named there,
    )

pub returns-in-None : goal.returns-in-None
returns-in-None c = (
  (refl, (λ w. tt), refl),
  item_missing c.args.array.now.items c.args.token.now (rw c.len.ensures at c.in-None.ensures.none),
)
