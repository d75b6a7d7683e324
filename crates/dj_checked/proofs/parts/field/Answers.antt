use Rattle.std.proofs.Common.{◌∙◌}
use Rattle.std.specs.Prelude.{option_map}
use Rattle.dj_names.specs.Types.{view_static}
use Rattle.dj_places.specs.declared.kind.TypeKind.TheVariants as kinds
use Rattle.dj_checked.specs.Sites.{site_of}
use Rattle.dj_checked.proofs.PartLemmas.{selects_is, whole_noted}
use Rattle.dj_checked.proofs.parts.field.Goals as goal

pub returns : goal.returns
returns c = record {
  walked = whole_noted c.args.place kinds.Name kinds.Access c.args.walk.now _ _ (site_of c.args.site.now) _ c.note.ensures.noted c.can_name.ensures.name c.note-2.ensures.noted (c.is_selected.ensures.selected ∙ selects_is (site_of c.args.site.now) c.args.name.now (option_map view_static c.args.object.now) (option_map view_static c.in_ok-found.found) c.in_ok-found.ensures.typed) c.in_ok-note_whole.ensures.noted c.in_ok-found.ensures.typed;
  typed = c.in_ok-found.ensures.typed;
}
