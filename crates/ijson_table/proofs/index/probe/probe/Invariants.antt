use Rattle.std.proofs.Common.{◌≡◌, ◌+◌, ◌<◌, length}
use Rattle.ijson_table.specs.private.Probe.{onward, Passed, PassedOthers}
use Rattle.ijson_table.proofs.index.probe.probe.Given as goal

-- The probe has passed the first `passed` slots, with one inspection of each.
abbrev pub invariant-loop-passed : goal.invariant-loop-passed
invariant-loop-passed g l =
    let p = g.P.ProbeTarget in
    let count = length (p.slots l.target) in
    record {
      within : l.slot < count;
      there : l.slot ≡ onward count l.home l.passed;
      passed : Passed (p.displacements l.target) count l.home l.passed;
      others : PassedOthers (p.slots l.target) (p.seeks l.target) l.home l.passed;
      looked : l.looks ≡ l.fn.looks + l.passed;
    }
