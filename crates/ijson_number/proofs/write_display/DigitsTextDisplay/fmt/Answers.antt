use Rattle.ijson_number.proofs.Common.{◌<◌, ◌++◌, ◌∙◌, refl, rules, chunks_rest, put_two}
use Rattle.ijson_number.proofs.writing.WordTexts.{front_too, back_too, run_more}
use Rattle.ijson_number.proofs.write_display.DigitsTextDisplay.fmt.Goals as goal

pub run_text-requires-clause-below_ten : goal.run_text-requires-clause-below_ten
run_text-requires-clause-below_ten g c =
    front_too (λ d. d < 10) (chunks_rest c.loop-run.run-iterator) c.in-Some.run'.now (chunks_rest c.next.new.self)
    c.in-Some.ensures.steps.1.0 c.loop-run.invariant.3

pub loop-run-preserved : goal.loop-run-preserved
loop-run-preserved g c =
    let rest = chunks_rest c.next.new.self in
    let steps = c.in-Some.ensures.steps in
    let so_far = c.loop-run.invariant.4 in
    let text = c.run_text.result.now in (
      search rules,
      tt,
      steps.0 ∙ c.loop-run.invariant.2,
      back_too (λ d. d < 10) (chunks_rest c.loop-run.run-iterator) c.in-Some.run'.now rest steps.1.0 c.loop-run.invariant.3,
      (
        so_far.0 ++ text,
        run_more so_far.0 text c.in-Some.run'.now rest _ _ steps.1.0 c.run_text.ensures so_far.1,
        λ plain.
            let was = so_far.2 plain in
            put_two g.W.Write.write_str_gives c.args.f.now c.loop-run.f c.write_str.new.self
            so_far.0 text (so_far.0 ++ text) was (c.in_ok-write_str.ensures.writes was.plain refl) refl,
      ),
    )
