use Rattle.dj_instructions.specs.Instructions.{view_instructions}
use Rattle.dj_code.specs.declared.content.RawHandler.{RawHandler}
use Rattle.dj_code.specs.Targets.{RangesRight}
use Rattle.dj_code.proofs.LeastWrong.{IsLeastSoFar}
use Rattle.dj_code.proofs.ranges.wrong_range.Given as goal

abbrev pub invariant-loop-handler : goal.invariant-loop-handler
invariant-loop-handler l = IsLeastSoFar (λ (handler : RawHandler). handler.start) (RangesRight l.pool (view_instructions l.instructions) l.size) l.handlers l.handler-index l.least
