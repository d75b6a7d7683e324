use Rattle.std.proofs.Common.{◌∙◌}
use Rattle.dj_known_world.proofs.Knowing.{known_as}
use Rattle.dj_known_world.proofs.known.is_known.Goals as goal

pub returns : goal.returns
returns c = record {
  known = known_as c.args.world.now c.classes_fit-fit.result c.objects_give-give.result c.has_header-there.result c.is_below-below.result _ _ _ _ _ c.classes_fit-fit.ensures.fit c.objects_give-give.ensures.give c.has_header-there.ensures.header
      c.is_below-below.ensures.below (c.as_slice-classes.ensures ∙ c.members.ensures.members) c.as_slice.ensures.headers c.headers-headers.ensures.headers c.in_ok-object.ensures.name c.in_ok-throwable.ensures.name;
}
