use Rattle.dj_pool.proofs.Units.{units_there}
use Rattle.dj_pool.proofs.skipped.skip_utf8.Goals as goal

pub returns-then-are_units : goal.returns-then-are_units
returns-then-are_units c = record { reads = units_there c.args.n c.args.bytes.now c.in_ok-text.text.now c.in_ok-text.rest.now c.in_ok-text.ensures.reads (c.are_units.ensures.units c.if-are_units.true) }
