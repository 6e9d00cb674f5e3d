use Rattle.std.proofs.Common.{◌++◌, ◌∷◌, [], List, ℕ, refl, ap, ◌∙◌, arith}
use Rattle.std.specs.String.{string_bytes}
use Rattle.std.proofs.lemmas.Str.{encode_ascii}
use Rattle.ijson_json.specs.Print.{all_escaped, quoted}
use Rattle.ijson_json.proofs.writing.Quoting.{on_begun}
use Rattle.ijson_json.proofs.write.quote.push_quoted.Goals as goal

pub returns-clause-refused : goal.returns-clause-refused
returns-clause-refused c =
    let old = string_bytes c.args.out.now in
    on_begun c.push_escaped.result old (string_bytes c.push.new.self) _ (34 ∷ []) (all_escaped c.args.text.now ++ 34 ∷ [])
    (quoted c.args.text.now)
    (c.in_ok-push.ensures.bytes ∙ ap (λ (l : List ℕ). old ++ l) (encode_ascii 34 (omega arith))) c.push_escaped.ensures.refused refl
