use Rattle.std.proofs.Common.{sym}
use Rattle.ijson_extra.proofs.tokens.Children.{child_item, child_member}
use Rattle.ijson_extra.proofs.pointer.child.Goals as goal

pub returns-in-Some : goal.returns-in-Some
returns-in-Some c = λ m e.
    child_item c.args.value.now c.in-Some.array.now.items c.item.result c.args.token.now m (sym c.in-Some.ensures.some)
    (rw c.as_slice.ensures at c.item.ensures) e

pub returns : goal.returns
returns c = λ m e.
    child_member c.args.value.now c.in_ok-as_object.field-0.now c.member.result m (sym c.in_ok-as_object.ensures.some) (c.member.ensures m e)
