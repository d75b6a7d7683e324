use Rattle.std.proofs.Common.{arith, ◌≡◌, ◌-◌, length}
use Rattle.dj_operands.proofs.StackLemmas.{dropped_top}
use Rattle.dj_operands.proofs.stack.Stack.shrink.Goals as goal

pub returns : goal.returns
returns c =
    let kept : c.saturating_sub-kept.result ≡ length c.args.self.now.values.items - c.args.count = omega arith in
    record { dropped = rw (c.truncate.ensures.items, kept) (dropped_top c.args.self.now.values.items c.args.count) }
