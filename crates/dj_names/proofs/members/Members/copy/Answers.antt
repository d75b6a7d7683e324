use Rattle.std.proofs.Common.{arith}
use Rattle.dj_names.proofs.CopyLemmas.{copied_more}
use Rattle.dj_names.proofs.members.Members.copy.Goals as goal

pub loop-class-preserved : goal.loop-class-preserved
loop-class-preserved c =
    copied_more c.as_slice-class-items.result.now c.loop-class.class-index _ _ _ _ (omega arith) c.class-item.is c.loop-class.invariant c.in_ok-copy.ensures.equal c.in_ok-push.ensures.ok
