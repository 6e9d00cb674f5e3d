use Rattle.std.proofs.Common.{refl, ap}
use Rattle.std.specs.Prelude.{option_map}
use Rattle.ijson_value.specs.laws.EntryValid.{still_valid}
use Rattle.ijson_value.proofs.pairs.Entries.{rewritten}
use Rattle.ijson_value.proofs.object.entry.OccupiedEntry.get_mut.Goals as goal

pub invariant_of-self-lent : goal.invariant_of-self-lent
invariant_of-self-lent c w = (still_valid c.args.self.now w, tt)

pub returns : goal.returns
returns c = (
  (refl, λ w. rewritten c.args.self.now w _),
  record { writes_back = tt; value = ap (option_map (λ pair. pair.1)) c.value_mut.ensures.value.1 },
)
