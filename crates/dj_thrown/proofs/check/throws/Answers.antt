use Rattle.dj_syntax.specs.Trees.{view_body}
use Rattle.dj_thrown.proofs.CheckLemmas.{body_throws_is}
use Rattle.dj_thrown.proofs.check.throws.Goals as goal

pub returns : goal.returns
returns c = record { throws = body_throws_is c.args.headers.now c.args.members.now (view_body c.args.body.now) c.in_ok-walk.walk c.in_ok-walk.ensures.walked }
