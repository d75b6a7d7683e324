use Rattle.std.proofs.Common.{refl}
use Rattle.dj_code.specs.MethodCode.{view_typed}
use Rattle.dj_birth_causes.proofs.Lengthy.{first_of}
use Rattle.dj_birth_causes.proofs.large.first_expression.Goals as goal

pub returns : goal.returns
returns c = record {
  first = first_of (view_typed c.args.typed.now) c.in_ok-births.births c.in_ok-births.ensures.exact c.first_long.result
      ((rw c.as_slice.ensures at (rw c.as_slice-2.ensures at c.first_long.ensures.first)) (view_typed c.args.typed.now) refl c.in_ok-births.ensures.exact c.in_ok-births.ensures.rising) c.in_default.ensures.long;
}
