use Rattle.std.proofs.Common.{sym, eq-eqb, rules}
use Rattle.std.proofs.lemmas.Bool.{eqb-true}
use Rattle.ijson_json.proofs.scanning.Prefixes.{not_both}
use Rattle.ijson_json.proofs.reading.CacheContents.{adds_behind}
use Rattle.ijson_json.proofs.faults.WholeTexts.{whole, behind, text_fault}
use Rattle.ijson_json.proofs.read.read_text.Goals as goal

pub returns-then-is_empty-clause-read : goal.returns-then-is_empty-clause-read
returns-then-is_empty-clause-read g c =
    let r = c.in-Ok.ensures.answer.read in
    rw r.2 (whole c.args.text.now c.skip_space-start.result.now c.in-Ok.rest.now c.skip_space-rest.result.now r.0 c.skip_space-start.ensures
    r.1 c.skip_space-rest.ensures (eqb-true _ _ (sym c.if-is_empty.ensures)))

pub returns-clause-read : goal.returns-clause-read
returns-clause-read g c =
    let r = c.in-Ok.ensures.answer.read in
    let error = behind c.args.text.now c.skip_space-start.result.now c.in-Ok.rest.now c.skip_space-rest.result.now r.0
    c.skip_space-start.ensures r.1 c.skip_space-rest.ensures (λ e. not_both _ (eq-eqb _ _ e) (sym c.if-is_empty.ensures)) in
    search (rules, error)

pub returns-in-Err-clause-read : goal.returns-in-Err-clause-read
returns-in-Err-clause-read g c =
    let error = text_fault c.args.text.now c.skip_space-start.result.now c.in-Err.fault c.skip_space-start.ensures c.in-Err.ensures.answer in
    rw c.located.ensures (search (rules, error))

pub returns-then-is_empty-clause-cache : goal.returns-then-is_empty-clause-cache
returns-then-is_empty-clause-cache g c = adds_behind c.skip_space-start.ensures c.read_value-read.ensures.cache

pub returns-clause-cache : goal.returns-clause-cache
returns-clause-cache g c = adds_behind c.skip_space-start.ensures c.read_value-read.ensures.cache

pub returns-in-Err-clause-cache : goal.returns-in-Err-clause-cache
returns-in-Err-clause-cache g c = adds_behind c.skip_space-start.ensures c.read_value-read.ensures.cache

pub returns-then-is_empty-clause-shared : goal.returns-then-is_empty-clause-shared
returns-then-is_empty-clause-shared g c = c.in-Ok.ensures.answer.shared
