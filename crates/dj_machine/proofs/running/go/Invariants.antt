use Rattle.std.proofs.Common.{◌≡◌}
use Rattle.dj_instructions.specs.Instructions.{view_instructions}
use Rattle.dj_code.specs.MethodCode.{view_code}
use Rattle.dj_bytecode.specs.Machine.{local_slots, steps}
use Rattle.dj_operands.specs.Stacks.{stacked}
use Rattle.dj_machine.specs.Runs.{run_state}
use Rattle.dj_machine.proofs.running.go.Given as goal

abbrev pub decreases-loop-left : goal.decreases-loop-left
decreases-loop-left l = l.left

abbrev pub invariant-loop-left : goal.invariant-loop-left
invariant-loop-left l =
    steps l.method.headers.now local_slots (view_code l.method.code.now) l.fn.steps (view_instructions l.method.code.now.instructions) (stacked l.initial.run.stack) (run_state l.initial.run)
    ≡ steps l.method.headers.now local_slots (view_code l.method.code.now) l.left (view_instructions l.instructions) (stacked l.run.stack) (run_state l.run)
