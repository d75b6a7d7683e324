use Rattle.std.proofs.Common.{◌+◌}
use Rattle.std.proofs.lemmas.List.{take_rest}
use Rattle.dj_starts.proofs.WalkPlaces.{below_place, walk_place, walk_places}
use Rattle.dj_starts.proofs.written.written_births.Goals as goal

pub step-requires-clause-rising : goal.step-requires-clause-rising
step-requires-clause-rising c = c.loop-place.invariant.rising

pub step-requires-clause-below : goal.step-requires-clause-below
step-requires-clause-below c = below_place c.args.typed.now c.requires.rising c.loop-place.place c.index-instructions-place.result (rw c.as_slice-instructions.ensures at c.loop-place-test.true) (rw c.as_slice-instructions.ensures at c.index-instructions-place.is) c.loop-place.walk c.loop-place.invariant

pub loop-place-preserved : goal.loop-place-preserved
loop-place-preserved c =
    walk_place c.args.typed.now c.requires.rising c.loop-place.place c.index-instructions-place.result (rw c.as_slice-instructions.ensures at c.loop-place-test.true) (rw c.as_slice-instructions.ensures at c.index-instructions-place.is)
    c.args.calls.now c.requires.table c.in_ok-fences.fences c.in_ok-fences.ensures.fences c.is_marked-fenced.result (rw c.as_slice.ensures at c.is_marked-fenced.ensures.exact) c.ended-ended.result
    (rw (c.frames_from.ensures.from, c.as_slice-in-loop-place.ensures) at c.ended-ended.ensures.ended)
    c.loop-place.walk c.step.new.walk
    (rw (c.role_of.ensures.role, c.first_role-behind.ensures.role, take_rest c.as_slice-instructions.result.now (c.loop-place.place + 1), c.as_slice-instructions.ensures) at c.in_ok-step.ensures.step)
    c.loop-place.invariant

pub returns : goal.returns
returns c = record { exact = walk_places c.args.typed.now c.requires.rising c.loop-place.place (rw c.as_slice-instructions.ensures at c.loop-place-test.false) c.loop-place.walk c.loop-place.invariant }
