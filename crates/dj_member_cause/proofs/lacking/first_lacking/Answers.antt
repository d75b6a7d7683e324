use Rattle.dj_code.specs.MethodCode.{view_typed}
use Rattle.dj_member_cause.proofs.LackingLemmas.{first_over}
use Rattle.dj_member_cause.proofs.lacking.first_lacking.Goals as goal

pub returns : goal.returns
returns c = record { first = first_over (view_typed c.args.typed.now) c.in_ok-found.found c.args.world.now c.headers.result.now c.member_table.result.now c.headers.ensures.headers c.member_table.ensures.members c.in_ok-found.ensures.first }
