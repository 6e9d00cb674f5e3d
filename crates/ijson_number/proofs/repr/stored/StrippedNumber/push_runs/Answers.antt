use Rattle.ijson_number.proofs.Common.{◌<◌, ◌++◌, ◌∙◌, rules, append_assoc, string_bytes, chunks_rest}
use Rattle.ijson_number.proofs.AnyAnswer.{where_refused}
use Rattle.ijson_number.proofs.writing.Beginnings.{some_begun}
use Rattle.ijson_number.proofs.writing.WordTexts.{front_too, back_too, run_more}
use Rattle.ijson_number.proofs.repr.stored.StrippedNumber.push_runs.Goals as goal

pub run_text-requires-clause-below_ten : goal.run_text-requires-clause-below_ten
run_text-requires-clause-below_ten c =
    front_too (λ d. d < 10) (chunks_rest c.loop-run.run-iterator) c.in-Some.run'.now (chunks_rest c.next.new.self)
    c.in-Some.ensures.steps.1.0 c.loop-run.invariant.3

pub loop-run-preserved : goal.loop-run-preserved
loop-run-preserved c =
    let rest = chunks_rest c.next.new.self in
    let steps = c.in-Some.ensures.steps in
    let so_far = c.loop-run.invariant.4 in
    let text = c.run_text.result.now in (
      search rules,
      tt,
      steps.0 ∙ c.loop-run.invariant.2,
      back_too (λ d. d < 10) (chunks_rest c.loop-run.run-iterator) c.in-Some.run'.now rest steps.1.0 c.loop-run.invariant.3,
      (
        so_far.0 ++ text,
        run_more so_far.0 text c.in-Some.run'.now rest _ _ steps.1.0 c.run_text.ensures so_far.1,
        rw (c.in_ok-push_str.ensures.bytes, so_far.2) (append_assoc (string_bytes c.args.out.now) so_far.0 text),
      ),
    )

pub returns-in_err-push_str-clause-refused : goal.returns-in_err-push_str-clause-refused
returns-in_err-push_str-clause-refused c =
    let so_far = c.loop-run.invariant.4 in
    where_refused _ (some_begun (string_bytes c.args.out.now) (string_bytes c.push_str.new.self) so_far.0 _ _ (search rules) so_far.1)
