use Rattle.std.proofs.Common.{◌<◌, ◌≤◌, length, arith}
use Rattle.dj_straight.proofs.StraightStacks.{push_room, push_full}
use Rattle.dj_straight.proofs.straight.push.Goals as goal

pub returns-then-len-from : goal.returns-then-len-from
returns-then-len-from c =
    let full : c.args.max_stack ≤ length c.args.stack.now = omega arith in
    record { stack = λ formula below is are. push_full c.args.max_stack c.args.stack.now formula below full are }

pub returns : goal.returns
returns c =
    let room : length c.args.stack.now < c.args.max_stack = omega arith in
    record { stack = λ formula below is are. rw c.in_ok-push.ensures.ok (push_room c.args.max_stack c.args.stack.now c.args.node formula below room is are) }
