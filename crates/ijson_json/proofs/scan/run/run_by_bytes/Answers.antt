use Rattle.std.proofs.Common.{rules, tests}
use Rattle.std.proofs.lemmas.Iterator.{YieldsList-from_slice}
use Rattle.std.proofs.lemmas.Iterator.Search.{position_from_yields_List}
use Rattle.std.specs.Prelude.{not}
use Rattle.ijson_json.specs.Strings.{is_unescaped}
use Rattle.ijson_json.proofs.scanning.UnescapedRuns.{run_end}
use Rattle.ijson_json.proofs.scan.run.run_by_bytes.Goals as goal

pub returns : goal.returns
returns c = run_end is_unescaped c.args.bytes.now c.unwrap_or.ensures
    (position_from_yields_List (λ byte. not (is_unescaped byte)) _ _ _ c.position-special.ensures.ran
    (YieldsList-from_slice c.args.bytes.now cc) (λ x b q h. search (rules, tests)))
