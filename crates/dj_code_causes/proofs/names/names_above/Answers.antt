use Rattle.std.proofs.Common.{Contains}
use Rattle.dj_code.specs.MethodCode.{view_code}
use Rattle.dj_code_causes.specs.NamedIn.{IsInCode}
use Rattle.dj_code_causes.proofs.Naming.{above_alike}
use Rattle.dj_code_causes.proofs.names.names_above.Goals as goal

pub returns : goal.returns
returns c = record {
  names = above_alike c.args.world.now.headers (Contains c.in_ok-names.names) (IsInCode (view_code c.args.code.now)) c.in_ok-names.ensures.names c.in_ok-all.all (rw c.as_slice.ensures at (rw c.headers.ensures.headers at c.in_ok-all.ensures.above));
}
