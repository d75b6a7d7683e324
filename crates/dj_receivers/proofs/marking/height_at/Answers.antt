use Rattle.std.proofs.Common.{map, sym, ◌∙◌, arith}
use Rattle.dj_frames.specs.Frames.{view_frame}
use Rattle.dj_receivers.proofs.Heights.{height_place, height_none, height_get, height_past, height_low}
use Rattle.dj_receivers.proofs.marking.height_at.Goals as goal

pub returns-in-Some-clause-height : goal.returns-in-Some-clause-height
returns-in-Some-clause-height c =
    let typed = c.args.typed.now in
    c.len.ensures.len ∙ height_get typed.frames c.in-Ok.place c.in-Some.frame.now c.in-Some.ensures.value
    ∙ sym (height_place typed.code.instructions (map view_frame typed.frames) c.args.pc c.in-Ok.place c.requires.rising (rw c.as_slice.ensures at c.in-Ok.ensures.found))

pub returns-in-Some-clause-low : goal.returns-in-Some-clause-low
returns-in-Some-clause-low c =
    let typed = c.args.typed.now in
    let same = c.len.ensures.len ∙ height_get typed.frames c.in-Ok.place c.in-Some.frame.now c.in-Some.ensures.value in
    let low = height_low (map view_frame typed.frames) c.in-Ok.place in
    omega (arith, same, low)

pub returns-in-None-clause-height : goal.returns-in-None-clause-height
returns-in-None-clause-height c =
    let typed = c.args.typed.now in
    sym (height_place typed.code.instructions (map view_frame typed.frames) c.args.pc c.in-Ok.place c.requires.rising (rw c.as_slice.ensures at c.in-Ok.ensures.found) ∙ height_past typed.frames c.in-Ok.place c.in-None.ensures.value)

pub returns-in-Err-clause-height : goal.returns-in-Err-clause-height
returns-in-Err-clause-height c = sym (height_none c.args.typed.now.code.instructions (map view_frame c.args.typed.now.frames) c.args.pc (rw c.as_slice.ensures at c.in-Err.ensures.absent))
