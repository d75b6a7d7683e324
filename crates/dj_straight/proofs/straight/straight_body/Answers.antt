use Rattle.dj_straight.proofs.StraightLaws.{empty_breaks, breaks_before, viewed_last}
use Rattle.dj_straight.proofs.straight.straight_body.Goals as goal

pub returns-in-None-clause-ok : goal.returns-in-None-clause-ok
returns-in-None-clause-ok c = empty_breaks c.args.parameters c.args.max_stack c.args.code.now c.args.instructions.now c.in-None.ensures.cases

pub returns-in-Breaks-clause-ok : goal.returns-in-Breaks-clause-ok
returns-in-Breaks-clause-ok c =
    let last = c.in-Some.last.now in
    let before = c.in-Some.before.now in
    let blocked = rw c.in-Breaks.is at c.in_ok-stack-in-Some.ensures.built in
    rw (viewed_last c.args.instructions.now before last c.in-Some.ensures.cases.0)
    (breaks_before c.args.parameters c.args.max_stack c.args.code.now _ _ c.in-Breaks.pc blocked)
