use Rattle.dj_member_cause.proofs.LackingLemmas.{GoingOn}
use Rattle.dj_member_cause.proofs.lacking.first_in.Given as goal

abbrev pub invariant-loop-place : goal.invariant-loop-place
invariant-loop-place l = GoingOn l.classes l.typed l.place l.known
