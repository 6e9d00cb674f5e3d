use Rattle.std.proofs.Common.{arith}
use Rattle.std.proofs.lemmas.Str.Pattern.{strip_prefix_char}
use Rattle.ijson_extra.proofs.tokens.Children.{slash}
use Rattle.ijson_extra.proofs.pointer.after_slash.Goals as goal

pub returns : goal.returns
returns c =
    let text = c.args.pointer.now in let left = c.strip_prefix.result in
    let cases = slash text left (strip_prefix_char 47 text left c.strip_prefix.ensures.cases (omega arith)) in
    record { some = cases.0; none = cases.1 }
