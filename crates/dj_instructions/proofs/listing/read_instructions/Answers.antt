use Rattle.dj_instructions.proofs.ListingReading.{value_given, fault_given, rising_given, some_given}
use Rattle.dj_instructions.proofs.listing.read_instructions.Goals as goal

pub returns-clause-value : goal.returns-clause-value
returns-clause-value c = value_given c.args.pool.now c.args.code.now c.listed.result c.listed.ensures.reads

pub returns-clause-fault : goal.returns-clause-fault
returns-clause-fault c = fault_given c.args.pool.now c.args.code.now c.listed.result c.listed.ensures.reads

pub returns-clause-rising : goal.returns-clause-rising
returns-clause-rising c = rising_given c.args.pool.now c.args.code.now c.listed.result c.listed.ensures.reads

pub returns-clause-some : goal.returns-clause-some
returns-clause-some c = some_given c.args.pool.now c.args.code.now c.listed.result c.listed.ensures.reads
