use Rattle.std.proofs.Common.{ap, ◌∙◌}
use Rattle.std.specs.Prelude.{option_map}
use Rattle.dj_names.specs.Types.{view_static}
use Rattle.dj_meaning.specs.StaticTypes.{plain}
use Rattle.dj_places.specs.declared.kind.TypeKind.TheVariants as kinds
use Rattle.dj_typing.specs.Expressions.{goes}
use Rattle.dj_checked.specs.Sites.{site_of}
use Rattle.dj_body_types.proofs.TypedLemmas.{plain_typed, three_noted}
use Rattle.dj_body_types.proofs.simple.note_set_field.Goals as goal

pub returns : goal.returns
returns c = record {
  noted = three_noted c.args.place kinds.Name kinds.Access kinds.WrongType c.args.walk.now _ _ _ c.note.ensures.noted c.can_name.ensures.name c.note-2.ensures.noted c.in_ok-may.ensures.may c.note-3.ensures.noted
      (c.goes-goes.ensures.goes ∙ ap (goes (site_of c.args.site.now).headers (option_map view_static c.args.new.now)) (c.plain.ensures.plain ∙ ap plain c.in_ok-field.ensures.typed ∙ plain_typed _));
}
