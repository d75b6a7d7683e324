use Rattle.std.proofs.Common.{List, map, drop, subst}
use Rattle.std.proofs.lemmas.List.{drop-map, take_rest}
use Rattle.dj_instructions.specs.Instructions.{view_instruction, view_instructions}
use Rattle.dj_frames.specs.Frames.{Frame, view_frame}
use Rattle.dj_code.specs.MethodCode.{view_typed}
use Rattle.dj_starts.specs.Births.{role_of}
use Rattle.dj_birth_causes.proofs.Misplacing.{IsWalkedTo, walked_first, walked_at, next_walked, here_walked}
use Rattle.dj_birth_causes.proofs.beginning.first_misplaced.Goals as goal

pub returns-then-is_barred : goal.returns-then-is_barred
returns-then-is_barred c =
    let typed = view_typed c.args.typed.now in
    let x = c.at-item.result in
    let left = c.loop-left.left.now in
    let more = map view_frame c.loop-left.frames.now in
    let walked = walked_at typed c.loop-left.before left c.loop-left.frames.now x c.in-len1-up.len_at_least c.at-item.is c.loop-left.invariant in
    record {
      first = here_walked typed c.requires.rising c.loop-left.before (x.0, view_instruction x.1) (view_instructions (drop 1 left)) more walked c.in_ok-calls.calls
          (rw (c.as_slice-instructions.ensures, c.as_slice.ensures) at c.in_ok-calls.ensures.table) c.ended-ended.result (rw c.as_slice-in-len1-up.ensures at c.ended-ended.ensures.ended)
          (rw (c.role_of-here.ensures.role, c.first_role.ensures.role, take_rest left 1) at (c.is_barred.ensures.barred c.if-is_barred.true));
    }

pub loop-left-preserved : goal.loop-left-preserved
loop-left-preserved c =
    let typed = view_typed c.args.typed.now in
    let x = c.at-item.result in
    let left = c.loop-left.left.now in
    let frames = c.loop-left.frames.now in
    let walked = walked_at typed c.loop-left.before left frames x c.in-len1-up.len_at_least c.at-item.is c.loop-left.invariant in
    let next = next_walked typed c.requires.rising c.loop-left.before (x.0, view_instruction x.1) (view_instructions (drop 1 left)) (map view_frame frames) walked c.in_ok-calls.calls
    (rw (c.as_slice-instructions.ensures, c.as_slice.ensures) at c.in_ok-calls.ensures.table) c.ended-ended.result (rw c.as_slice-in-len1-up.ensures at c.ended-ended.ensures.ended)
    (rw (c.role_of-here.ensures.role, c.first_role.ensures.role, take_rest left 1) at (c.is_barred.ensures.free c.if-is_barred.false)) in
    rw (c.role_of-here.ensures.role, take_rest left 1, c.frames_from-frames.ensures.from)
    (subst (λ (list : List Frame). IsWalkedTo typed (role_of (view_instruction x.1)) (view_instructions (drop 1 left)) list) (drop-map view_frame 1 frames) next)

pub loop-left-init : goal.loop-left-init
loop-left-init c = rw (c.as_slice-instructions.ensures, c.as_slice-frames.ensures) (walked_first (view_typed c.args.typed.now) c.requires.rising)
