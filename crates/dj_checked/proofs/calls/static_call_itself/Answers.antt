use Rattle.std.proofs.Common.{◌≡◌, map, ap, ◌∙◌}
use Rattle.std.specs.Prelude.{option_map, option_and_then}
use Rattle.dj_names.specs.Types.{view_static}
use Rattle.dj_meaning.specs.Targets.{result}
use Rattle.dj_meaning.specs.StaticTypes.{typed, class_target}
use Rattle.dj_places.specs.declared.kind.TypeKind.TheVariants as kinds
use Rattle.dj_static.specs.Targets.{view_target}
use Rattle.dj_typing.specs.Expressions.{is_meant}
use Rattle.dj_typing.specs.Sites.{context_of}
use Rattle.dj_checked.specs.Sites.{site_of}
use Rattle.dj_checked.specs.Walks as spec
use Rattle.dj_checked.proofs.PartLemmas.{whole_noted}
use Rattle.dj_checked.proofs.calls.static_call_itself.Goals as goal

pub returns : goal.returns
returns c =
    let target_is : option_map view_target c.in_ok-target.target ≡ (class_target (context_of (site_of c.args.site.now)) c.args.class.now c.args.name.now (option_map (map view_static) c.args.given.now)) = c.in_ok-target.ensures.target in
    record {
      walked = whole_noted c.args.place kinds.Name kinds.Call c.args.walk.now _ _ (site_of c.args.site.now) (spec.static_call_type (site_of c.args.site.now) c.args.class.now c.args.name.now (option_map (map view_static) c.args.given.now)) c.note.ensures.noted c.in_ok-named.ensures.may c.note-2.ensures.noted (c.is_meant.ensures.meant ∙ ap (is_meant (option_map (map view_static) c.args.given.now)) target_is) c.in_ok-note_whole.ensures.noted
          (c.in_ok-found.ensures.typed ∙ ap (λ target. typed (option_and_then result target)) target_is);
      target = target_is;
    }
