use Rattle.std.proofs.Common.{[], List, ℕ, arith, sym, rules}
use Rattle.std.specs.String.{string_bytes}
use Rattle.std.proofs.lemmas.List.{append-nil}
use Rattle.ijson_json.proofs.scanning.Prefixes.{past_byte}
use Rattle.ijson_json.proofs.reading.StringContent.{Appended, appended_more, reached_start, reached_quote, reached_stop}
use Rattle.ijson_json.proofs.reading.StringContent.{after_run}
use Rattle.ijson_json.proofs.read.string.push_content.Goals as goal

pub loop-character-init : goal.loop-character-init
loop-character-init c = record {
  utf8 = c.utf8.text;
  read = ([], reached_start c.args.text.now, sym (append-nil (string_bytes c.args.content.now)));
  escape = c.requires.escape;
  unclosed = c.requires.unclosed;
}

pub returns-in_default-clause-fault : goal.returns-in_default-clause-fault
returns-in_default-clause-fault c =
    reached_stop c.loop-character.invariant.read.1 _ (omega arith) c.loop-character.invariant.unclosed
    (after_run _ c.loop-character.invariant.escape c.in_default.ensures)

pub returns-in-Some-strip_byte-clause-read : goal.returns-in-Some-strip_byte-clause-read
returns-in-Some-strip_byte-clause-read c =
    let e = c.in_ok-after.ensures in
    let after : List ℕ = c.in_ok-after.after.now in
    let a : Appended c.args.text.now after (string_bytes c.args.content.now) (string_bytes c.push_run.new.content) =
    appended_more _ _ _ _ e.0 after _ _ _ _ c.loop-character.invariant.read c.in-Some.ensures c.in_ok-push.ensures.bytes e.1 e.2 e.4 in
    (a.0, reached_quote a.1 c.in-Some-strip_byte.ensures, a.2)

pub loop-character-preserved : goal.loop-character-preserved
loop-character-preserved c =
    let e = c.in_ok-after.ensures in
    let after : List ℕ = c.in_ok-after.after.now in
    record {
      utf8 = search rules;
      read = appended_more _ _ _ _ e.0 after _ _ _ _ c.loop-character.invariant.read c.in-Some.ensures c.in_ok-push.ensures.bytes e.1
          e.2 e.4;
      escape = e.3;
      unclosed = λ behind e. past_byte 34 after behind c.in_default-strip_byte.ensures e;
    }
