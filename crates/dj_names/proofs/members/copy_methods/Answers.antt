use Rattle.std.proofs.Common.{arith}
use Rattle.dj_names.proofs.CopyLemmas.{copied_more}
use Rattle.dj_names.proofs.members.copy_methods.Goals as goal

pub loop-method-preserved : goal.loop-method-preserved
loop-method-preserved c =
    copied_more c.args.methods.now c.loop-method.method-index _ _ _ _ (omega arith) c.method-item.is c.loop-method.invariant c.in_ok-copy.ensures.equal c.in_ok-push.ensures.ok
