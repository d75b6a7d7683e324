use Rattle.std.proofs.Common.{◌&&◌, map, ap, ◌∙◌}
use Rattle.std.specs.Prelude.{option_map}
use Rattle.dj_names.specs.Types.{view_static}
use Rattle.dj_syntax.specs.Trees.{view_exps}
use Rattle.dj_meaning.specs.StaticTypes.{construct_target}
use Rattle.dj_places.specs.declared.kind.TypeKind.TheVariants as kinds
use Rattle.dj_static.specs.Scopes.{scope_of}
use Rattle.dj_typing.specs.Sites.{context_of}
use Rattle.dj_typing.specs.Expressions.{is_meant}
use Rattle.dj_typed.specs.Statements.{without_this}
use Rattle.dj_checked.specs.Sites.{site_of}
use Rattle.dj_checked.specs.Walks.{note}
use Rattle.dj_checked.proofs.PassLemmas.{listed_parts}
use Rattle.dj_body_types.proofs.simple.pass_construct.Goals as goal

pub returns : goal.returns
returns c =
    let site = site_of c.args.site.now in
    record {
      walked = listed_parts (without_this site) (scope_of c.args.scope.now) c.args.walk.now
          (λ place given walk. note place kinds.Call (c.args.may && is_meant given (construct_target (context_of site) c.args.own given)) walk) (view_exps c.args.arguments.now)
          c.step-place.ensures.stepped c.step-place.ensures.place c.in_ok-given.ensures.walked c.in_ok-given.ensures.typed
          (c.note.ensures.noted
          ∙ ap (λ kept. note c.step-place.result kinds.Call kept c.pass_exps.new.walk)
          (c.both-meant.ensures.both ∙ ap (λ b. c.args.may && b) (c.is_meant.ensures.meant ∙ ap (is_meant (option_map (map view_static) c.in_ok-given.given)) c.in_ok-target.ensures.target)));
    }
