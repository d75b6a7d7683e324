use Rattle.std.proofs.Common.{◌≡◌, ◌<◌, ◌+◌, [], ◌∷◌, length, ap, ◌∙◌, arith, length-append}
use Rattle.dj_pending.proofs.OperandLemmas.{one-taken}
use Rattle.dj_pending.proofs.operands.take.Goals as goal

pub operands-preserved : goal.operands-preserved
operands-preserved c =
    let less : length c.operands.taken < c.args.count = omega arith in
    let longer : length c.push.new.self ≡ length c.operands.taken + 1 = ap length c.in_ok-push.ensures.ok ∙ length-append c.operands.taken (c.in-Some-into_operand.operand ∷ []) in
    (omega arith, one-taken c.args.count c.operands.taken c.push.new.self _ _ _ c.in-Some-into_operand.operand _ less c.in-Some.ensures.popped c.in-Some-into_operand.ensures.operand c.in_ok-push.ensures.ok c.operands.invariant.1)
