use Rattle.std.proofs.Common.{[], arith}
use Rattle.ijson_table.proofs.slots.SlotTables.{empty_table}
use Rattle.ijson_table.proofs.index.slots.Slots.new.Goals as goal

pub returns-clause-table : goal.returns-clause-table
returns-clause-table c = empty_table [] (λ p d lp. absurd (omega arith))
