use Rattle.std.proofs.Common.{◌∙◌, ◌∷◌, [], ap, arith, length}
use Rattle.std.proofs.lemmas.List.{length-append}
use Rattle.std.proofs.lemmas.Str.Pattern.{split_parts}
use Rattle.ijson_extra.specs.Pointer.{written_tokens}
use Rattle.ijson_extra.proofs.Pointers.{written_split, written_last, first_named}
use Rattle.ijson_extra.proofs.pointer.split_token.Goals as goal

pub returns-in-Some : goal.returns-in-Some
returns-in-Some c =
    let left = c.args.left.now in let token = c.in-Some.token.now in let behind = c.in-Some.behind.now in
    let parts = rw c.in-Some.is at (split_parts 47 left c.split_once.result c.split_once.ensures.cases (omega arith)) in
    let first = first_named left token (written_tokens behind) (ap written_tokens parts.0 ∙ written_split token behind parts.1) in
    let bytes = ap length parts.0 ∙ length-append token (47 ∷ behind) in
    record { first = first.0; some = (omega (arith, bytes), first.1); none = tt }

pub returns-in-None : goal.returns-in-None
returns-in-None c =
    let left = c.args.left.now in
    let first = first_named left left []
    (written_last left (rw c.in-None.is at (split_parts 47 left c.split_once.result c.split_once.ensures.cases (omega arith)))) in
    record { first = first.0; some = tt; none = first.1 }
