use Rattle.std.proofs.Common.{◌∙◌, length, sym}
use Rattle.std.proofs.lemmas.List.{length-map}
use Rattle.dj_frames.specs.Frames.{view_tag, view_tags, is_unborn}
use Rattle.dj_effects.proofs.Replacing.{any_is}
use Rattle.dj_effects.proofs.unborn.is_kept.Goals as goal

pub returns : goal.returns
returns c =
    record { kept = c.is_some.ensures ∙ any_is (is_unborn c.args.unborn) (view_tags c.args.slots.now) (length c.args.slots.now) c.next_of.result (sym (length-map c.args.slots.now view_tag)) c.next_of.ensures.next }
