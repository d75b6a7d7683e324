use Rattle.std.proofs.Common.{◌≡◌, take}
use Rattle.dj_syntax.proofs.expression.+copy.Given as goal

abbrev pub invariant-copied::copy_exps-loop-exp : goal.invariant-copied::copy_exps-loop-exp
invariant-copied::copy_exps-loop-exp l = l.copy ≡ take l.exp-index l.list
