use Rattle.ijson_value.proofs.object.entry.OccupiedEntry.insert.Goals as goal

pub returns-clause-written : goal.returns-clause-written
returns-clause-written c = cc
