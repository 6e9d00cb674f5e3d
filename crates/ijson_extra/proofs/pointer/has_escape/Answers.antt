use Rattle.std.proofs.Common.{◌∙◌, Contains, sym, subst, arith}
use Rattle.std.proofs.lemmas.List.Elements.{Contains-get_or}
use Rattle.std.proofs.lemmas.Str.Pattern.{contains_char}
use mathlib.Core.Bool.{true≢false}
use Rattle.ijson_extra.proofs.Pointers.{meant_itself}
use Rattle.ijson_extra.proofs.pointer.has_escape.Goals as goal

pub returns : goal.returns
returns c =
    let token = c.args.token.now in
    let found = contains_char 126 token c.contains.result c.contains.ensures.cases (omega arith) in
    record {
      escape = λ t. let at = found.0 t in subst (Contains token) at.2 (Contains-get_or token at.0 0 at.1);
      itself = λ f. meant_itself token (λ i l is. true≢false (sym (found.1 i l is) ∙ f));
    }
