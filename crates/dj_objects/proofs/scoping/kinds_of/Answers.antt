use Rattle.dj_syntax.specs.Trees.{view_exps}
use Rattle.dj_static.specs.Scopes.{scope_of}
use Rattle.dj_objects.proofs.TypesAlike.{types_alike}
use Rattle.dj_objects.proofs.scoping.kinds_of.Goals as goal

pub returns : goal.returns
returns c = record { kinds = rw (← types_alike c.args.method.now (scope_of c.args.scope.now) (view_exps c.args.arguments.now)) c.types_of.ensures.typed }
