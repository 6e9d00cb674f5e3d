use Rattle.std.proofs.Common.{◌++◌, length-drop, take, drop, sym, ap, ◌∙◌, arith}
use Rattle.std.proofs.lemmas.List.{append-nil}
use Rattle.std.specs.List.{prefix_len}
use Rattle.std.proofs.lemmas.List.Sums.{prefix_len-le-length}
use lib.Count.{count_trailing_zeros}
use Rattle.ijson_json.specs.Strings.{is_unescaped}
use Rattle.ijson_json.proofs.scanning.AppendedRuns.{appended, appended_row, cut_row}
use Rattle.ijson_json.proofs.scan.run.append_run.Goals as goal
use Rattle.ijson_json.proofs.scanning.MaskedRuns.{run_short, run_through, run_within}

pub loop-at-init : goal.loop-at-init
loop-at-init c = record {
  unescaped = omega arith;
  within = omega arith;
  appended = sym (append-nil c.args.content.now.items);
}

pub overflow_sub-bytes : goal.overflow_sub-bytes
overflow_sub-bytes c = c.loop-at.invariant.within

pub overflow_sub-count : goal.overflow_sub-count
overflow_sub-count c =
    let found = c.specials-found in
    run_short is_unescaped c.args.bytes.now c.loop-at.at 16 found.result (omega arith) (omega arith) found.ensures (omega arith)

pub returns-then-found-ne0-clause-count : goal.returns-then-found-ne0-clause-count
returns-then-found-ne0-clause-count c =
    let found = c.specials-found in
    let run = run_within is_unescaped c.args.bytes.now c.loop-at.at 16 found.result (omega arith) (omega arith) found.ensures
    (omega arith) in
    omega (arith, run, c.loop-at.invariant.unescaped)

pub returns-then-found-ne0-clause-run : goal.returns-then-found-ne0-clause-run
returns-then-found-ne0-clause-run c =
    let old = c.args.content.now.items in
    let bytes = c.args.bytes.now in
    let at = c.loop-at.at in
    let found = c.specials-found in
    let few = run_short is_unescaped bytes at 16 found.result (omega arith) (omega arith) found.ensures (omega arith) in
    let longer = appended_row old bytes at (omega arith) c.loop-at.content.items _ c.loop-at.invariant.appended
    c.in_ok-extend_from_slice.ensures.items in
    c.truncate.ensures.items ∙ cut_row old bytes at (omega arith) c.extend_from_slice.new.self.items
    (count_trailing_zeros 64 found.result) _ few longer (omega (arith, c.len.ensures, c.extend_from_slice.new.self.ok))

pub loop-at-preserved : goal.loop-at-preserved
loop-at-preserved c =
    let run = run_through is_unescaped c.args.bytes.now c.loop-at.at 16 (omega arith) (omega (arith, c.specials-found.ensures)) in
    record {
      unescaped = omega (arith, run, c.loop-at.invariant.unescaped);
      within = omega arith;
      appended = appended_row c.args.content.now.items c.args.bytes.now c.loop-at.at (omega arith) c.loop-at.content.items _
          c.loop-at.invariant.appended (c.in_ok-extend_from_slice.ensures.items);
    }

pub slice_bounds-extend_from_slice-end-2 : goal.slice_bounds-extend_from_slice-end-2
slice_bounds-extend_from_slice-end-2 c =
    let at = c.loop-at.at in
    let bytes = c.args.bytes.now in
    omega (arith, c.last_run_end-end.ensures, prefix_len-le-length is_unescaped (drop at bytes), length-drop at bytes)

pub returns-clause-run : goal.returns-clause-run
returns-clause-run c =
    let old = c.args.content.now.items in
    let at = c.loop-at.at in
    let left = drop at c.args.bytes.now in
    let count = prefix_len is_unescaped left in
    c.in_ok-extend_from_slice-2.ensures.items
    ∙ ap (λ n. c.loop-at.content.items ++ take n left) (omega (arith, c.last_run_end-end.ensures))
    ∙ ap (λ l. l ++ take count left) c.loop-at.invariant.appended
    ∙ appended old c.args.bytes.now at count
    ∙ ap (λ n. old ++ take n c.args.bytes.now) (sym c.last_run_end-end.ensures)
