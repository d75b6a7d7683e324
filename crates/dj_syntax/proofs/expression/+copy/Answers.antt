use Rattle.std.proofs.Common.{arith}
use Rattle.dj_names.proofs.CopyLemmas.{copied_more}
use Rattle.dj_syntax.proofs.expression.+copy.Goals as goal

pub copied::copy_exps-loop-exp-preserved : goal.copied::copy_exps-loop-exp-preserved
copied::copy_exps-loop-exp-preserved t c =
    copied_more c.args.list.now c.loop-exp.exp-index _ _ _ _ (omega arith) c.exp-item.is c.loop-exp.invariant c.in_ok-copy.ensures.equal c.in_ok-push.ensures.ok
