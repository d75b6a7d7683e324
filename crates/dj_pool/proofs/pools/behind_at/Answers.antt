use Rattle.std.specs.Option.{option_copied}
use Rattle.dj_pool.proofs.pools.behind_at.Goals as goal

pub returns-in-1-clause-reads : goal.returns-in-1-clause-reads
returns-in-1-clause-reads c = rw c.in-1.is (c.utf8_entry_at.ensures.reads (option_copied c.args.given))

pub returns-in-1-clause-tag : goal.returns-in-1-clause-tag
returns-in-1-clause-tag c = rw c.in-1.is c.utf8_entry_at.ensures.tag

pub returns-in-3-clause-reads : goal.returns-in-3-clause-reads
returns-in-3-clause-reads c = rw c.in-3.is (c.integer_at.ensures.reads (option_copied c.args.given))

pub returns-in-3-clause-tag : goal.returns-in-3-clause-tag
returns-in-3-clause-tag c = rw c.in-3.is c.integer_at.ensures.tag

pub returns-in-4-clause-reads : goal.returns-in-4-clause-reads
returns-in-4-clause-reads c = rw c.in-4.is (c.float_at.ensures.reads (option_copied c.args.given))

pub returns-in-4-clause-tag : goal.returns-in-4-clause-tag
returns-in-4-clause-tag c = rw c.in-4.is c.float_at.ensures.tag

pub returns-in-5-clause-reads : goal.returns-in-5-clause-reads
returns-in-5-clause-reads c = rw c.in-5.is (c.long_at.ensures.reads (option_copied c.args.given))

pub returns-in-5-clause-tag : goal.returns-in-5-clause-tag
returns-in-5-clause-tag c = rw c.in-5.is c.long_at.ensures.tag

pub returns-in-6-clause-reads : goal.returns-in-6-clause-reads
returns-in-6-clause-reads c = rw c.in-6.is (c.double_at.ensures.reads (option_copied c.args.given))

pub returns-in-6-clause-tag : goal.returns-in-6-clause-tag
returns-in-6-clause-tag c = rw c.in-6.is c.double_at.ensures.tag
