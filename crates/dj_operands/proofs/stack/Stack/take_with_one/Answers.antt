use Rattle.std.proofs.Common.{arith}
use Rattle.dj_operands.proofs.StackLemmas.{length-top_down, cut_top}
use Rattle.dj_operands.proofs.stack.Stack.take_with_one.Goals as goal

pub returns-then-len-count : goal.returns-then-len-count
returns-then-len-count c = record { taken = omega (arith, length-top_down c.args.self.now.values.items) }

pub returns : goal.returns
returns c =
    let kept = c.in_ok-operands.ensures.items in
    let cut = c.in_ok-operands.ensures.tail in
    record { taken = (rw (kept, cut) (cut_top c.args.self.now.values.items _), omega (arith, c.in_ok-operands.ensures.tail_len)) }
