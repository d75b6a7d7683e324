use Rattle.std.proofs.Common.{◌≡◌, ℕ, ◌+◌, ◌-◌, ◌<◌, length, get_or, subst, arith}
use Rattle.dj_code.proofs.TargetLists.{item_at}
use Rattle.dj_frames.specs.Frames.{view_frame, view_frames}
use Rattle.dj_verify.specs.Checking.{ArePlacesFrom}
use Rattle.dj_verify.proofs.GivenFrames.{one_more, place_is}
use Rattle.dj_verify.proofs.subject.first_places.Goals as goal

pub loop-from-preserved : goal.loop-from-preserved
loop-from-preserved c =
    let frames = c.args.frames.now in
    let from : ℕ = c.loop-from.from - 1 in
    let above : c.loop-from.from ≡ from + 1 = omega arith in
    let within : from < length frames = let low = c.loop-from.invariant.1 in omega arith in
    let item = get_or frames from c.index-frames-from.result in
    let before : ArePlacesFrom (from + 1) (view_frames frames) c.loop-from.places = subst (λ n. ArePlacesFrom n (view_frames frames) c.loop-from.places) above c.loop-from.invariant.0 in
    (one_more (view_frames frames) from item.0 (view_frame item.1) c.loop-from.places c.insert.new.self (place_is frames from item within (item_at frames from within item c.index-frames-from.result)) before c.in_ok-insert.ensures.updates, omega arith)
