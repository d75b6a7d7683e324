use Rattle.std.proofs.Common.{Any, take}
use Rattle.dj_instructions.specs.Instructions.{view_instruction}
use Rattle.dj_code_causes.specs.NamedIn.{IsInInstruction}
use Rattle.dj_sayable.specs.Gathering.{Gains}
use Rattle.dj_code_causes.proofs.names.add_instructions.Given as goal

abbrev pub invariant-loop-at : goal.invariant-loop-at
invariant-loop-at l = Gains l.initial.names l.names (λ name. Any (λ at. IsInInstruction (view_instruction at.1) name) (take l.at-index l.instructions))
