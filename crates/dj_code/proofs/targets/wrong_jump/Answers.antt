use Rattle.std.proofs.Common.{ℕ, arith}
use Rattle.std.proofs.lemmas.List.{length-map}
use Rattle.dj_instructions.specs.Instructions.{Instruction, view_instructions}
use Rattle.dj_code.specs.Targets.{JumpsRight}
use Rattle.dj_code.proofs.LeastWrong.{step, least_of_all}
use Rattle.dj_code.proofs.TargetLists.{viewed, viewed_at}
use Rattle.dj_code.proofs.targets.wrong_jump.Goals as goal

pub loop-at-preserved : goal.loop-at-preserved
loop-at-preserved c =
    let i = view_instructions c.args.instructions.now in
    rw c.least_wrong-least.ensures.least (step (λ (at : ℕ × Instruction). at.0) (λ (at : ℕ × Instruction). JumpsRight i at.1) i c.loop-at.at-index (viewed c.at-item.result) (viewed_at c.args.instructions.now c.loop-at.at-index c.at-item.result c.loop-at-test.true c.at-item.is) c.jumps_right-right.result c.loop-at.least c.jumps_right-right.ensures.exact c.loop-at.invariant)

pub returns : goal.returns
returns c =
    let i = view_instructions c.args.instructions.now in
    let long = length-map c.args.instructions.now viewed in
    record { least = least_of_all (λ (at : ℕ × Instruction). at.0) (λ (at : ℕ × Instruction). JumpsRight i at.1) i c.loop-at.at-index c.loop-at.least (omega (arith, c.loop-at-test.false, long)) (omega (arith, long)) c.loop-at.invariant }
