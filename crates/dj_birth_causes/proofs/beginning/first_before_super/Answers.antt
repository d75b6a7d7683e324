use Rattle.std.proofs.Common.{sym, ◌∙◌}
use Rattle.dj_code.specs.MethodCode.{view_typed}
use Rattle.dj_birth_causes.proofs.Beginnings.{begins_one}
use Rattle.dj_birth_causes.proofs.beginning.first_before_super.Goals as goal

pub returns-in-None : goal.returns-in-None
returns-in-None c =
    let typed = view_typed c.args.typed.now in
    let begins = rw (c.as_slice-instructions.ensures, c.as_slice-frames.ensures) at (sym c.in_ok-begins_with_receiver.ensures.begins ∙ c.if-not-branch.false) in
    let one = begins_one typed.code.instructions typed.frames begins in
    record { first = λ pc has. (rw (c.as_slice-instructions.ensures, c.as_slice-frames.ensures) at c.in-None.ensures.first) one.0 one.1 }
