use Rattle.std.proofs.Common.{◌∙◌, Some, sym, ap, refl}
use Rattle.ijson_value.specs.NodeValue.{node_value}
use Rattle.ijson_value.specs.WellFormed.{WellFormed}
use Rattle.ijson_extra.specs.Pointer.{resolved, resolved_with}
use Rattle.ijson_extra.specs.private.Walked.{found_at}
use Rattle.ijson_extra.proofs.tokens.Options.{on_seen}
use Rattle.ijson_extra.proofs.tokens.Walked.{found_once}
use Rattle.ijson_extra.proofs.pointer.lend.resolve_opened_mut.Goals as goal

pub returns-in-Some : goal.returns-in-Some
returns-in-Some c =
    let pointer = c.args.pointer.now in let found = c.in-Some.found.now.tree in
    let same = ap (λ (p : WellFormed). p.tree) c.deref_mut-2.ensures.value in
    let there = c.in-Some.ensures.value ∙ ap (λ x. found_at x pointer) same in (
      (
        refl,
        (λ w e. on_seen c.inside.result found (c.inside.ensures.value ∙ sym c.in-Some.ensures.value)
            (c.inside.follows.holds (node_value w))
            ∙ ap (λ x. resolved_with x pointer (node_value w).tree) same),
        tt,
      ),
      (
        found_once (resolved c.args.value.now.tree pointer) found there
            ∙ ap (λ (p : WellFormed). Some (Some p.tree)) (sym c.deref_mut-in-Some.ensures.value),
        tt,
      ),
    )
