use Rattle.dj_statements.proofs.MadeLemmas.{view_construct}
use Rattle.dj_statements.proofs.lists.Lists.end_call.Goals as goal

pub returns-in-Own : goal.returns-in-Own
returns-in-Own c = record { ended = rw c.in-Own.is (rw (view_construct c.in-Own.own c.args.arguments) at c.end_start.ensures.ended) }
