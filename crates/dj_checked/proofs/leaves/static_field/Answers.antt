use Rattle.std.proofs.Common.{◌&&◌, map, refl, ap, ◌∙◌}
use Rattle.std.specs.Prelude.{option_map, is_some}
use Rattle.dj_names.specs.Types.{view_static}
use Rattle.dj_meaning.specs.Fields.{named_field}
use Rattle.dj_meaning.specs.Members.{view_members}
use Rattle.dj_places.specs.declared.kind.TypeKind.TheVariants as kinds
use Rattle.dj_typing.specs.Sites.{may_name}
use Rattle.dj_checked.specs.Sites.{site_of}
use Rattle.dj_typing.specs.Words.{is_identifier}
use Rattle.dj_checked.specs.Walks.{note, note_whole}
use Rattle.dj_checked.proofs.PartLemmas.{is_some_field, leaf_noted, whole_noted}
use Rattle.dj_checked.proofs.leaves.static_field.Goals as goal

pub returns : goal.returns
returns c = record {
  walked = leaf_noted (λ place found walk. note_whole (site_of c.args.site.now) place found (note place kinds.Access (is_some (named_field c.args.site.now.classes.headers.now (map view_members c.args.site.now.classes.members.now) c.args.site.now.classes.from.now c.args.class.now c.args.name.now)) (note place kinds.Name (may_name (site_of c.args.site.now) c.args.class.now && is_identifier c.args.name.now) walk))) c.args.walk.now _ c.step-place.ensures.stepped c.step-place.ensures.place c.in_ok-found.ensures.typed
      (whole_noted c.step-place.result kinds.Name kinds.Access c.step-place.new.self _ _ (site_of c.args.site.now) (option_map view_static c.in_ok-found.found) c.note.ensures.noted c.in_ok-named.ensures.may c.note-2.ensures.noted (c.is_typed.ensures.typed ∙ ap is_some c.in_ok-found.ensures.typed ∙ is_some_field (named_field c.args.site.now.classes.headers.now (map view_members c.args.site.now.classes.members.now) c.args.site.now.classes.from.now c.args.class.now c.args.name.now)) c.in_ok-note_whole.ensures.noted refl);
  typed = c.in_ok-found.ensures.typed;
}
