use Rattle.std.proofs.Common.{◌++◌, ◌∷◌, [], List, ℕ, ap, sym, ◌∙◌, append_assoc}
use Rattle.std.specs.String.{string_bytes}
use Rattle.ijson_json.specs.KeyText.{key_text}
use Rattle.ijson_json.specs.Print.{all_escaped}
use Rattle.ijson_json.specs.Separator.{separator}
use Rattle.ijson_json.proofs.writing.Quoting.{on_begun}
use Rattle.ijson_json.proofs.write.quote.push_key.Goals as goal

pub returns-clause-refused : goal.returns-clause-refused
returns-clause-refused c =
    let before = separator c.args.is_first in
    let letters = all_escaped c.args.key.now in
    on_begun c.push_escaped.result (string_bytes c.args.out.now) (string_bytes c.push_opening.new.out) _ (before ++ 34 ∷ [])
    (letters ++ 34 ∷ 58 ∷ []) (key_text c.args.is_first c.args.key.now) (c.in_ok-push_opening.ensures.written)
    c.push_escaped.ensures.refused
    (ap (λ (l : List ℕ). before ++ 34 ∷ l) (append_assoc letters (34 ∷ []) (58 ∷ []))
    ∙ sym (append_assoc before (34 ∷ []) (letters ++ 34 ∷ 58 ∷ [])))
