use Rattle.std.proofs.Common.{◌+◌, drop, map}
use Rattle.std.proofs.lemmas.List.{take_rest}
use Rattle.dj_frames.specs.Frames.{view_frame}
use Rattle.dj_starts.proofs.Asking.{code_step, code_end}
use Rattle.dj_starts.proofs.starts.mark_code.Goals as goal

pub loop-place-init : goal.loop-place-init
loop-place-init c = λ after more. more

pub loop-place-preserved : goal.loop-place-preserved
loop-place-preserved c = λ after more.
    let all = c.args.instructions.now in
    let i = c.loop-place.place in
    c.loop-place.invariant after (code_step c.args.handlers.now all c.args.frames.now i c.index-instructions-place.result c.loop-place-test.true c.index-instructions-place.is c.loop-place.begins c.mark_all.new.marks c.mark_behind.new.begins after
    (rw (c.as_slice.ensures, c.in_ok-push_targets.ensures.pushed, c.new-targets.ensures) at c.mark_all.ensures.more)
    (rw (c.frames_from-frames.ensures.from, take_rest all (i + 1)) at c.mark_behind.ensures.more)
    more)

pub returns : goal.returns
returns c = record { more = c.loop-place.invariant c.loop-place.begins (code_end c.args.handlers.now c.args.instructions.now (map view_frame (drop c.loop-place.place c.args.frames.now)) c.loop-place.place c.loop-place.begins c.loop-place-test.false) }
