use Rattle.std.proofs.Common.{sym, ◌∙◌}
use Rattle.dj_code.specs.MethodCode.{view_typed}
use Rattle.dj_birth_causes.proofs.Lengthy.{long_begun}
use Rattle.dj_birth_causes.proofs.large.long_beginning.Goals as goal

pub returns-in-Some : goal.returns-in-Some
returns-in-Some c = record {
  long = long_begun (view_typed c.args.typed.now) c.requires.rising (sym c.is_constructor.ensures.constructor ∙ c.if-not-is_constructor.false) c.in-Some.call
      (rw (c.as_slice-instructions.ensures, c.as_slice.ensures) at c.in-Some.ensures.first) c.long_between.result (rw c.as_slice-instructions.ensures at c.long_between.ensures.long);
}
