use Rattle.dj_pool.proofs.Units.{begins_pair}
use Rattle.dj_pool.proofs.modified_utf8.after_first.Goals as goal

pub returns-then-is_two-clause-unit : goal.returns-then-is_two-clause-unit
returns-then-is_two-clause-unit c = rw c.in-Some.ensures.cases.0 (begins_pair c.args.first c.in-Some.second.now c.in-Some.rest.now (c.is_two.ensures.two c.if-is_two.true))
