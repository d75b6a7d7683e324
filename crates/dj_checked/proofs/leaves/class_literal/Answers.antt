use Rattle.std.proofs.Common.{◌&&◌, ap, ◌∙◌}
use Rattle.std.specs.Prelude.{option_map}
use Rattle.dj_names.specs.Types.{view_type, view_static}
use Rattle.dj_values.specs.Deciding.{is_reference}
use Rattle.dj_places.specs.declared.kind.TypeKind.TheVariants as kinds
use Rattle.dj_typing.specs.Sites.{may_name_type}
use Rattle.dj_checked.specs.Sites.{site_of}
use Rattle.dj_checked.specs.Walks.{note, note_whole}
use Rattle.dj_checked.proofs.PartLemmas.{leaf_noted}
use Rattle.dj_checked.proofs.leaves.class_literal.Goals as goal

pub returns : goal.returns
returns c = record {
  walked = leaf_noted (λ place found walk. note_whole (site_of c.args.site.now) place found (note place kinds.Name (is_reference (view_type c.args.kind.now) && may_name_type (site_of c.args.site.now) (view_type c.args.kind.now)) walk)) c.args.walk.now _ c.step-place.ensures.stepped c.step-place.ensures.place c.in_ok-found.ensures.typed (c.in_ok-note_whole.ensures.noted ∙ ap (note_whole (site_of c.args.site.now) c.step-place.result (option_map view_static c.in_ok-found.found)) (c.note.ensures.noted ∙ ap (λ kept. note c.step-place.result kinds.Name kept c.step-place.new.self) c.in_ok-named.ensures.literal));
  typed = c.in_ok-found.ensures.typed;
}
