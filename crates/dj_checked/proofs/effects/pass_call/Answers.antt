use Rattle.dj_syntax.specs.Trees.{view_exp, view_exps}
use Rattle.dj_static.specs.Scopes.{scope_of}
use Rattle.dj_checked.specs.Sites.{site_of}
use Rattle.dj_checked.specs.Walks as spec
use Rattle.dj_checked.proofs.PassLemmas.{called_parts}
use Rattle.dj_checked.proofs.effects.pass_call.Goals as goal

pub returns : goal.returns
returns c = record {
  walked = called_parts (site_of c.args.site.now) (scope_of c.args.scope.now) c.args.walk.now (λ place kind given walk. spec.note_call_itself (site_of c.args.site.now) place c.args.name.now kind given walk) (view_exp c.args.object.now) (view_exps c.args.arguments.now)
      c.step-place.ensures.stepped c.step-place.ensures.place c.in_ok-object.ensures.walked c.in_ok-object.ensures.typed c.in_ok-given.ensures.walked c.in_ok-given.ensures.typed c.in_ok-call_itself.ensures.walked;
}
