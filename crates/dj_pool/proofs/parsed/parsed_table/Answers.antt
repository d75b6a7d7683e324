use Rattle.dj_pool.specs.PoolTable.{Agrees}
use Rattle.dj_pool.proofs.Zips.{zip_taken, table_more}
use Rattle.dj_pool.proofs.parsed.parsed_table.Goals as goal

pub returns : goal.returns
returns c = record { table = zip_taken Agrees c.args.entries.now c.loop-entry.entry-index c.loop-entry.table.items c.loop-entry-test.false c.loop-entry.invariant }

pub loop-entry-preserved : goal.loop-entry-preserved
loop-entry-preserved c =
    table_more Agrees c.args.entries.now c.loop-entry.entry-index c.entry-item.result c.loop-entry.table.items c.push.new.self.items c.in_ok-parsed.parsed c.loop-entry-test.true c.entry-item.is c.loop-entry.invariant c.in_ok-parsed.ensures.agrees c.in_ok-push.ensures.items
