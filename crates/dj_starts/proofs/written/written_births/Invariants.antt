use Rattle.std.proofs.Common.{take}
use Rattle.dj_instructions.specs.Instructions.{view_instructions}
use Rattle.dj_code.specs.MethodCode.{view_typed}
use Rattle.dj_starts.specs.Walking.{IsWalked}
use Rattle.dj_starts.proofs.written.written_births.Given as goal

abbrev pub invariant-loop-place : goal.invariant-loop-place
invariant-loop-place l = IsWalked (view_typed l.typed) (view_instructions (take l.place l.typed.code.instructions)) l.walk
