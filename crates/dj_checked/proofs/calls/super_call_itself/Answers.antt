use Rattle.std.proofs.Common.{◌≡◌, ◌&&◌, not, map, ap, ◌∙◌}
use Rattle.std.specs.Prelude.{option_map, option_and_then}
use Rattle.dj_names.specs.Types.{view_static}
use Rattle.dj_meaning.specs.Targets.{result}
use Rattle.dj_meaning.specs.StaticTypes.{typed, super_target}
use Rattle.dj_places.specs.declared.kind.TypeKind.TheVariants as kinds
use Rattle.dj_static.specs.Targets.{view_target}
use Rattle.dj_typing.specs.Expressions.{is_meant, means_abstract}
use Rattle.dj_typing.specs.Sites.{context_of}
use Rattle.dj_checked.specs.Sites.{site_of}
use Rattle.dj_checked.specs.Walks as spec
use Rattle.dj_checked.proofs.PartLemmas.{whole_noted}
use Rattle.dj_checked.proofs.calls.super_call_itself.Goals as goal

pub returns : goal.returns
returns c =
    let target_is : option_map view_target c.in_ok-target.target ≡ (super_target (context_of (site_of c.args.site.now)) c.args.above.now c.args.name.now (option_map (map view_static) c.args.given.now)) = c.in_ok-target.ensures.target in
    record {
      walked = whole_noted c.args.place kinds.Name kinds.Call c.args.walk.now _ _ (site_of c.args.site.now) (spec.super_call_type (site_of c.args.site.now) c.args.above.now c.args.name.now (option_map (map view_static) c.args.given.now)) c.note.ensures.noted c.may_call_super.ensures.may c.note-2.ensures.noted (c.in_ok-meant.ensures.meant ∙ ap (λ target. is_meant (option_map (map view_static) c.args.given.now) target && not (means_abstract (site_of c.args.site.now) c.args.above.now c.args.name.now (option_map (map view_static) c.args.given.now))) target_is) c.in_ok-note_whole.ensures.noted
          (c.in_ok-found.ensures.typed ∙ ap (λ target. typed (option_and_then result target)) target_is);
      target = target_is;
    }
