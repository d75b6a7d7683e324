use Rattle.dj_syntax.specs.Trees.{view_exp}
use Rattle.dj_static.specs.Scopes.{scope_of}
use Rattle.dj_objects.proofs.TypesAlike.{type_alike}
use Rattle.dj_objects.proofs.scoping.kind_of.Goals as goal

pub returns : goal.returns
returns c = record { kind = rw (← type_alike c.args.method.now (scope_of c.args.scope.now) (view_exp c.args.exp.now)) c.plain_type_of.ensures.typed }
