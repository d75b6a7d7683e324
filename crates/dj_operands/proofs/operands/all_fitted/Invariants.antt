use Rattle.dj_operands.proofs.Fitting.{FitsTo}
use Rattle.dj_operands.proofs.operands.all_fitted.Given as goal

abbrev pub invariant-loop-at : goal.invariant-loop-at
invariant-loop-at l = FitsTo l.kinds l.values l.at l.kept
