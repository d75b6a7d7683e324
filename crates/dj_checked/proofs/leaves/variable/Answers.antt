use Rattle.std.proofs.Common.{ap, ◌∙◌}
use Rattle.std.specs.Prelude.{option_map, is_some}
use Rattle.dj_names.specs.Types.{view_static}
use Rattle.dj_places.specs.declared.kind.TypeKind.TheVariants as kinds
use Rattle.dj_meaning.specs.StaticTypes.{typed}
use Rattle.dj_static.specs.Scopes.{scope_of}
use Rattle.dj_checked.specs.Sites.{site_of}
use Rattle.dj_checked.specs.Walks.{note, note_whole}
use Rattle.dj_checked.proofs.PartLemmas.{leaf_noted}
use Rattle.dj_checked.proofs.leaves.variable.Goals as goal

pub returns : goal.returns
returns c = record {
  walked = leaf_noted (λ place found walk. note_whole (site_of c.args.site.now) place found (note place kinds.Name (is_some (scope_of c.args.scope.now c.args.variable)) walk)) c.args.walk.now _ c.step-place.ensures.stepped c.step-place.ensures.place (c.in_ok-found.ensures.typed ∙ ap typed c.kind-declared.ensures.kind) (c.in_ok-note_whole.ensures.noted ∙ ap (note_whole (site_of c.args.site.now) c.step-place.result (option_map view_static c.in_ok-found.found)) (c.note.ensures.noted ∙ ap (λ kept. note c.step-place.result kinds.Name kept c.step-place.new.self) (c.is_declared.ensures.declared ∙ ap is_some c.kind-declared.ensures.kind)));
  typed = c.in_ok-found.ensures.typed ∙ ap typed c.kind-declared.ensures.kind;
}
