use Rattle.std.proofs.Common.{◌≡◌, ℕ}
use Rattle.std.specs.Prelude.{slice_index_or}
use Rattle.dj_instructions.specs.declared.instruction.Instruction.{Instruction as Listed}
use Rattle.dj_code.specs.MethodCode.{view_typed}
use Rattle.dj_receivers.proofs.Following.{IsWalkingFrom}
use Rattle.dj_receivers.proofs.walking.walk.Given as goal

abbrev pub invariant-loop-place : goal.invariant-loop-place
invariant-loop-place l =
    (x : ℕ × Listed) → x ≡ slice_index_or l.fn.typed.code.instructions l.fn.first x → IsWalkingFrom (view_typed l.fn.typed) l.fn.typed.code.instructions l.fn.joins l.initial.marking l.marking x.0 l.place
