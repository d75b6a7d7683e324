use Rattle.dj_pool.proofs.Units.{begins_three}
use Rattle.dj_pool.proofs.modified_utf8.after_second.Goals as goal

pub returns-then-is_three-clause-unit : goal.returns-then-is_three-clause-unit
returns-then-is_three-clause-unit c =
    let is = c.is_three.ensures.three c.if-is_three.true in
    rw c.in-Some.ensures.cases.0 (begins_three c.args.first c.args.second c.in-Some.third.now c.in-Some.rest.now is.0 is.1 is.2 is.3 is.4 is.5 is.6)
