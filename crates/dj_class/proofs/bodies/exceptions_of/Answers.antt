use Rattle.dj_class.proofs.BodyAttributes.{trailing_exceptions, faulty_exceptions}
use Rattle.dj_class.proofs.bodies.exceptions_of.Goals as goal

pub returns-else-is_empty-clause-none : goal.returns-else-is_empty-clause-none
returns-else-is_empty-clause-none c = trailing_exceptions c.args.pool.now c.args.content.now c.in-Ok.rest.now c.in-Ok.thrown c.in-Ok.ensures.reads c.if-is_empty.ensures

pub returns-in-Err-Fault-clause-none : goal.returns-in-Err-Fault-clause-none
returns-in-Err-Fault-clause-none c = faulty_exceptions c.args.pool.now c.args.content.now _ c.in-Err-Fault.field-0 c.in-Err-Fault.field-0-0 c.in-Err-Fault.field-0-is c.in-Err-Fault.ensures.reads
