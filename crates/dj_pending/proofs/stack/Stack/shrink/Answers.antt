use Rattle.std.proofs.Common.{arith, ◌≡◌, ◌-◌, length}
use Rattle.dj_pending.proofs.StackLemmas.{dropped_top}
use Rattle.dj_pending.proofs.stack.Stack.shrink.Goals as goal

pub returns : goal.returns
returns c =
    let kept : c.saturating_sub-kept.result ≡ length c.args.self.now.entries.items - c.args.count = omega arith in
    record { dropped = rw (c.truncate.ensures.items, kept) (dropped_top c.args.self.now.entries.items c.args.count) }
