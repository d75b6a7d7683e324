use Rattle.std.proofs.Common.{◌&&◌, not, map, ap, ◌∙◌}
use Rattle.std.specs.Prelude.{option_map}
use Rattle.dj_names.specs.Types.{view_static}
use Rattle.dj_places.specs.declared.kind.TypeKind.TheVariants as kinds
use Rattle.dj_typing.specs.Expressions.{is_meant, is_abstract}
use Rattle.dj_checked.proofs.PartLemmas.{both_noted}
use Rattle.dj_checked.proofs.calls.new.Goals as goal

pub returns : goal.returns
returns c = record {
  walked = both_noted c.args.place kinds.Name kinds.Call c.args.walk.now _ _ c.note.ensures.noted c.in_ok-named.ensures.may c.note-2.ensures.noted (c.is_made.ensures.made ∙ ap (λ target. not (is_abstract c.args.site.now.classes.headers.now c.args.class.now) && is_meant (option_map (map view_static) c.args.given.now) target) c.in_ok-target.ensures.target);
  typed = c.in_ok-found.ensures.typed;
}
