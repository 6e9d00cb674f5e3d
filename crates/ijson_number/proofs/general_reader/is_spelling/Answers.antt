use Rattle.ijson_number.proofs.Common.{arith, nat_tests}
use Rattle.ijson_number.proofs.parsing.NumberFronts.{cut_spells, spelling_whole}
use Rattle.ijson_number.proofs.general_reader.is_spelling.Goals as goal

pub returns-in-Ok : goal.returns-in-Ok
returns-in-Ok c =
    let w = spelling_whole c.args.text.now c.in-Ok.rest.now c.in-Ok.field-0-0 c.in-Ok.ensures.ok in
    (λ h. w.0 (grind (arith, nat_tests)), λ n. let z = w.1 n in grind (arith, nat_tests))

pub returns-in-Err : goal.returns-in-Err
returns-in-Err c = (λ h. absurd (cc), λ n. absurd (cut_spells c.args.text.now c.in-Err.field-0.now c.in-Err.ensures.err n))
