use Rattle.dj_instructions.specs.Instructions.{view_instructions}
use Rattle.dj_code.specs.declared.content.RawHandler.{RawHandler}
use Rattle.dj_code.specs.Targets.{LeadsRight}
use Rattle.dj_code.proofs.LeastWrong.{IsLeastSoFar}
use Rattle.dj_code.proofs.ranges.wrong_target.Given as goal

abbrev pub invariant-loop-handler : goal.invariant-loop-handler
invariant-loop-handler l = IsLeastSoFar (λ (handler : RawHandler). handler.start) (LeadsRight (view_instructions l.instructions)) l.handlers l.handler-index l.least
