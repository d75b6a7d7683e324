use Rattle.std.proofs.Common.{arith}
use Rattle.dj_names.proofs.CopyLemmas.{copied_more}
use Rattle.dj_syntax.proofs.statement.+copy.Goals as goal

pub copied::copy_list-loop-statement-preserved : goal.copied::copy_list-loop-statement-preserved
copied::copy_list-loop-statement-preserved t c =
    copied_more c.args.list.now c.loop-statement.statement-index _ _ _ _ (omega arith) c.statement-item.is c.loop-statement.invariant c.in_ok-copy.ensures.equal c.in_ok-push.ensures.ok

pub copied::copy_groups-loop-group-preserved : goal.copied::copy_groups-loop-group-preserved
copied::copy_groups-loop-group-preserved t c =
    copied_more c.args.list.now c.loop-group.group-index _ _ _ _ (omega arith) c.group-item.is c.loop-group.invariant c.in_ok-copy.ensures.equal c.in_ok-push.ensures.ok

pub copied::copy_catches-loop-catch-preserved : goal.copied::copy_catches-loop-catch-preserved
copied::copy_catches-loop-catch-preserved t c =
    copied_more c.args.list.now c.loop-catch.catch-index _ _ _ _ (omega arith) c.catch-item.is c.loop-catch.invariant c.in_ok-copy.ensures.equal c.in_ok-push.ensures.ok
