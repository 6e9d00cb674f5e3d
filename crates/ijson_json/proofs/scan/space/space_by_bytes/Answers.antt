use Rattle.std.proofs.Common.{rules, tests}
use Rattle.std.proofs.lemmas.Iterator.{YieldsList-from_slice}
use Rattle.std.proofs.lemmas.Iterator.Search.{position_from_yields_List}
use Rattle.std.specs.Prelude.{not}
use Rattle.ijson_json.specs.Grammar.{is_space}
use Rattle.ijson_json.proofs.scanning.UnescapedRuns.{run_end}
use Rattle.ijson_json.proofs.scan.space.space_by_bytes.Goals as goal

pub returns : goal.returns
returns c = run_end is_space c.args.bytes.now c.unwrap_or.ensures
    (position_from_yields_List (λ byte. not (is_space byte)) _ _ _ c.position-other.ensures.ran
    (YieldsList-from_slice c.args.bytes.now cc) (λ x b q h. search (rules, tests)))
