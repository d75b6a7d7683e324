use Rattle.dj_pool.proofs.Units.{begins_one}
use Rattle.dj_pool.proofs.modified_utf8.after_unit.Goals as goal

pub returns-then-is_one-clause-unit : goal.returns-then-is_one-clause-unit
returns-then-is_one-clause-unit c = let is = c.is_one.ensures.one c.if-is_one.true in rw c.in-Some.ensures.cases.0 (begins_one c.in-Some.first.now c.in-Some.rest.now is.0 is.1)
