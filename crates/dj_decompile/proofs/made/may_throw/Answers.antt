use Rattle.dj_syntax.specs.Trees.{view_body}
use Rattle.dj_thrown.specs.Bodies.{body_thrown}
use Rattle.dj_decompile.proofs.Deciding.{faulty}
use Rattle.dj_decompile.proofs.made.may_throw.Goals as goal

pub returns-in-Err-TypeFault : goal.returns-in-Err-TypeFault
returns-in-Err-TypeFault c =
    let fault = c.in-Err-TypeFault in
    let rules = body_thrown c.args.headers.now c.args.members.now (view_body c.args.body.now) in
    record { may = faulty rules (record { place = fault.field-0-0; kind = fault.field-0-1 }) (rw fault.field-0-is at fault.ensures.broken) }
