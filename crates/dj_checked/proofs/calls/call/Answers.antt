use Rattle.std.proofs.Common.{map, ap, ◌∙◌}
use Rattle.std.specs.Prelude.{option_map, option_and_then}
use Rattle.dj_names.specs.Types.{view_static}
use Rattle.dj_meaning.specs.Targets.{result}
use Rattle.dj_meaning.specs.StaticTypes.{plain, typed, object_target}
use Rattle.dj_typing.specs.Expressions.{gives_value}
use Rattle.dj_typing.specs.Sites.{context_of}
use Rattle.dj_checked.specs.Sites.{site_of}
use Rattle.dj_checked.proofs.PartLemmas.{value_noted}
use Rattle.dj_checked.proofs.calls.call.Goals as goal

pub returns : goal.returns
returns c = record {
  walked = value_noted c.args.place (object_target (context_of (site_of c.args.site.now)) c.args.name.now (plain (option_map view_static c.args.object.now)) (option_map (map view_static) c.args.given.now)) c.note.ensures.noted (c.gives_value.ensures.gives ∙ ap gives_value c.in_ok-target.ensures.target) c.in_ok-target.ensures.walked;
  typed = c.in_ok-found.ensures.typed ∙ ap (λ target. typed (option_and_then result target)) c.in_ok-target.ensures.target;
}
