use Rattle.std.proofs.Common.{◌≡◌, ◌++◌, ◌∷◌, [], List, ℕ, drop, append-nil, length, length-append, length-drop, append_assoc, refl, sym, ap, ap₂, ◌∙◌, ◌+◌, arith}
use Rattle.std.specs.String.{string_bytes}
use Rattle.std.proofs.Math.Seq.{drop-append_seam}
use Rattle.std.proofs.lemmas.List.{drop-drop}
use Rattle.std.proofs.lemmas.Str.{IsCharBoundary-start}
use Rattle.ijson_number.proofs.AnyAnswer.{where_refused}
use Rattle.ijson_json.proofs.scanning.CharBoundaries.{behind_byte}
use Rattle.ijson_json.proofs.writing.Quoting.{escaping_run, escaping_byte, escaping_end, escaping_begun, escaping_begun_escape}
use Rattle.ijson_json.proofs.writing.Quoting.{nothing_left, on_ok, on_refused}
use Rattle.ijson_json.proofs.write.quote.push_escaped.Goals as goal

pub loop-byte-init : goal.loop-byte-init
loop-byte-init c = record {
  boundary = IsCharBoundary-start c.args.text.now c.utf8.text;
  written = record { done = []; is = sym (append-nil (string_bytes c.args.out.now)); whole = refl };
}

pub returns-in_default-clause-written : goal.returns-in_default-clause-written
returns-in_default-clause-written c =
    let split = c.split_run.ensures in
    on_ok c.push_str-in_default.result _ _ _ _ c.push_str-in_default.ensures.bytes
    (escaping_end (escaping_run c.loop-byte.invariant.written _ _ split.whole split.run c.in_ok-push_str.ensures.bytes) c.args.end.now
    (nothing_left c.split_run.result.1.now split.stops c.in_default.ensures.cases))

pub returns-in_default-clause-refused : goal.returns-in_default-clause-refused
returns-in_default-clause-refused c =
    let split = c.split_run.ensures in
    on_refused c.push_str-in_default.result _ _ _ c.push_str-in_default.ensures.bytes
    (escaping_begun (escaping_run c.loop-byte.invariant.written _ _ split.whole split.run c.in_ok-push_str.ensures.bytes) c.args.end.now
    c.requires)

pub returns-in_err-push_str-clause-refused : goal.returns-in_err-push_str-clause-refused
returns-in_err-push_str-clause-refused c =
    where_refused _ (escaping_begun c.loop-byte.invariant.written c.args.end.now c.requires c.in_err-push_str.ensures.bytes)

pub returns-in_err-push_escape-clause-refused : goal.returns-in_err-push_escape-clause-refused
returns-in_err-push_escape-clause-refused c =
    let split = c.split_run.ensures in
    where_refused _ (escaping_begun_escape
    (escaping_run c.loop-byte.invariant.written _ _ split.whole split.run c.in_ok-push_str.ensures.bytes) c.args.end.now c.in-Some.byte
    c.in-Some.field-0-1.now c.in-Some.ensures.cases c.in_err-push_escape.ensures.refused)

pub push_escape-requires : goal.push_escape-requires
push_escape-requires c = rw c.in-Some.ensures.cases at c.split_run.ensures.stops

-- If `b` ends the run from `start`, the text after `b` begins at `start + (length run + 1)`.
rest_after : (text run after rest : List ℕ) (b start : ℕ) → drop start text ≡ run ++ after → after ≡ b ∷ rest
    → rest ≡ drop (start + (length run + 1)) text
rest_after text run after rest b start e f =
    sym (drop-append_seam (run ++ b ∷ []) rest)
    ∙ ap₂ drop (length-append run (b ∷ [])) (append_assoc run (b ∷ []) rest ∙ sym (e ∙ ap (λ (l : List ℕ). run ++ l) f))
    ∙ drop-drop (length run + 1) start text

pub loop-byte-preserved : goal.loop-byte-preserved
loop-byte-preserved c =
    let split = c.split_run.ensures in
    let byte = c.in-Some.ensures in
    record {
      boundary = behind_byte c.args.text.now c.split_run.result.0.now c.split_run.result.1.now c.in-Some.field-0-1.now c.in-Some.byte
          c.loop-byte.start c.utf8.text split.whole byte.cases byte.ascii;
      written = rw (← rest_after c.args.text.now c.split_run.result.0.now c.split_run.result.1.now c.in-Some.field-0-1.now c.in-Some.byte
          c.loop-byte.start split.whole byte.cases) (escaping_byte (escaping_run c.loop-byte.invariant.written _ _ split.whole split.run
          c.in_ok-push_str.ensures.bytes) c.in-Some.byte c.in-Some.field-0-1.now byte.cases c.in_ok-push_escape.ensures.written);
    }

pub loop-byte-smaller : goal.loop-byte-smaller
loop-byte-smaller c = omega (
  arith,
  length-drop c.loop-byte.start c.args.text.now,
  ap length c.split_run.ensures.whole,
  length-append c.split_run.result.0.now c.split_run.result.1.now,
  ap length c.in-Some.ensures.cases,
)
