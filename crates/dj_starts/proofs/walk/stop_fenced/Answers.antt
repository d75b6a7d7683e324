use Rattle.std.proofs.Common.{arith}
use Rattle.std.proofs.lemmas.Bool.{both_ways}
use Rattle.dj_starts.proofs.walk.stop_fenced.Goals as goal

pub returns-then-fenced-clause-left : goal.returns-then-fenced-clause-left
returns-then-fenced-clause-left c = λ start. (
  λ h. absurd (omega (arith, ((c.drop_from.ensures.cut.left start).0 h).1)),
  λ h. absurd (both_ways c.args.fenced h.1 c.if-fenced.true),
)
