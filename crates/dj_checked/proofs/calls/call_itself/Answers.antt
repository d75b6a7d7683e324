use Rattle.std.proofs.Common.{◌≡◌, map, ap, ◌∙◌}
use Rattle.std.specs.Prelude.{option_map, option_and_then}
use Rattle.dj_names.specs.Types.{view_static}
use Rattle.dj_meaning.specs.Targets.{result}
use Rattle.dj_meaning.specs.StaticTypes.{plain, typed, object_target}
use Rattle.dj_places.specs.declared.kind.TypeKind.TheVariants as kinds
use Rattle.dj_static.specs.Targets.{view_target}
use Rattle.dj_typing.specs.Sites.{context_of}
use Rattle.dj_checked.specs.Sites.{site_of}
use Rattle.dj_checked.specs.Walks as spec
use Rattle.dj_checked.proofs.PartLemmas.{called_is, whole_noted}
use Rattle.dj_checked.proofs.calls.call_itself.Goals as goal

pub returns : goal.returns
returns c =
    let target_is : option_map view_target c.in_ok-target.target ≡ (object_target (context_of (site_of c.args.site.now)) c.args.name.now (plain (option_map view_static c.args.object.now)) (option_map (map view_static) c.args.given.now)) = c.in_ok-target.ensures.target ∙ ap (λ object. object_target (context_of (site_of c.args.site.now)) c.args.name.now object (option_map (map view_static) c.args.given.now)) c.plain.ensures.plain in
    record {
      walked = whole_noted c.args.place kinds.Name kinds.Call c.args.walk.now _ _ (site_of c.args.site.now) (spec.call_type (site_of c.args.site.now) c.args.name.now (option_map view_static c.args.object.now) (option_map (map view_static) c.args.given.now)) c.note.ensures.noted c.can_name.ensures.name c.note-2.ensures.noted (c.is_called.ensures.called ∙ called_is (site_of c.args.site.now) c.args.name.now (option_map view_static c.args.object.now) (option_map (map view_static) c.args.given.now) (option_map view_target c.in_ok-target.target) target_is) c.in_ok-note_whole.ensures.noted
          (c.in_ok-found.ensures.typed ∙ ap (λ target. typed (option_and_then result target)) target_is);
      target = target_is;
    }
