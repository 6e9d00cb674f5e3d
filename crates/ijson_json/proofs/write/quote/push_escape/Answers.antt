use Rattle.std.proofs.Common.{◌≡◌, ℕ, true, false, eqb, refl, sym, ◌∙◌, get_or}
use Rattle.std.proofs.lemmas.Bool.{agree_below_at, eqb-true}
use Rattle.std.specs.String.{string_bytes}
use Rattle.ijson_number.proofs.AnyAnswer.{where_refused}
use Rattle.ijson_json.specs.declared.write.quote.TheConstants.{LETTERS}
use Rattle.ijson_json.specs.Strings.{is_unescaped}
use Rattle.ijson_json.proofs.scanning.UnescapedRuns.{special_ascii}
use Rattle.ijson_json.proofs.writing.Quoting.{letter_of, letter_written, letter_begun, letter_unbegun, escaped_control, on_ok, on_refused}
use Rattle.ijson_json.proofs.write.quote.push_escape.Goals as goal

in_table : (b : ℕ) → is_unescaped b ≡ false → get_or LETTERS b 0 ≡ letter_of b
in_table b h = eqb-true _ _ (agree_below_at (λ k. eqb (get_or LETTERS k 0) (letter_of k)) (λ k. true) 128 b refl (special_ascii b h))

pub returns-then-letter-eq117 : goal.returns-then-letter-eq117
returns-then-letter-eq117 c = rw (escaped_control c.args.byte c.requires (sym (in_table c.args.byte c.requires)
    ∙ c.if-letter-eq117.true)).1 c.push_unicode.ensures

pub returns-in_err-push-clause-refused : goal.returns-in_err-push-clause-refused
returns-in_err-push-clause-refused c = where_refused _ (letter_unbegun (string_bytes c.args.out.now) c.args.byte _
    (in_table c.args.byte c.requires) c.if-letter-eq117.false c.in_err-push.ensures.bytes)

pub returns-clause-refused : goal.returns-clause-refused
returns-clause-refused c = on_refused c.push-2.result _ _ _ c.push-2.ensures.bytes
    (letter_begun (string_bytes c.args.out.now) c.args.byte _ (in_table c.args.byte c.requires) c.if-letter-eq117.false c.in_ok-push.ensures.bytes)

pub returns-clause-written : goal.returns-clause-written
returns-clause-written c = on_ok c.push-2.result _ _ _ _ c.push-2.ensures.bytes
    (letter_written (string_bytes c.args.out.now) c.args.byte _ (in_table c.args.byte c.requires) c.if-letter-eq117.false c.in_ok-push.ensures.bytes)
