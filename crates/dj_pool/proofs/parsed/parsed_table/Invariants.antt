use Rattle.std.proofs.Common.{take}
use Rattle.dj_pool.specs.PoolTable.{IsTable}
use Rattle.dj_pool.proofs.parsed.parsed_table.Given as goal

abbrev pub invariant-loop-entry : goal.invariant-loop-entry
invariant-loop-entry l = IsTable (take l.entry-index l.entries) l.table.items
