use Rattle.std.proofs.Common.{◌++◌, ◌∙◌, ap, sym, add-one, take, drop, get_or}
use Rattle.dj_frames.specs.Frames.{view_tags}
use Rattle.dj_applying.proofs.Moving.{picked_more}
use Rattle.dj_applying.proofs.forms.picked.Goals as goal

pub loop-place-preserved : goal.loop-place-preserved
loop-place-preserved c =
    let place = get_or c.args.places.now c.loop-place.place-index 0 in
    let more = picked_more c.args.places.now (view_tags c.args.stack.now) c.loop-place.place-index 0 c.loop-place-test.true in
    let from = c.from.ensures in
    rw add-one (c.in_ok-pick.ensures.ok ∙ ap (λ l. l ++ take 1 (drop c.from.result (view_tags c.args.stack.now))) c.loop-place.invariant ∙ rw from (sym more))
