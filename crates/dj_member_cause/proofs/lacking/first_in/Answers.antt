use Rattle.std.proofs.Common.{◌<◌, ◌≤◌, List, length, subst, ap}
use Rattle.dj_frames.specs.declared.frame.Frame as code_frame
use Rattle.dj_member_cause.proofs.TellingLemmas.{told_begins}
use Rattle.dj_member_cause.proofs.LackingLemmas.{item_at, going_begins, none_more, no_more_frames, is_there, found_first, further}
use Rattle.dj_member_cause.proofs.lacking.first_in.Goals as goal

pub loop-place-init : goal.loop-place-init
loop-place-init c = record {
  going = going_begins c.args.classes.now c.args.typed.now c.requires.rising;
  known_so = record { told = rw c.new-known.ensures.told (told_begins c.args.classes.now c.args.typed.now); calls = rw c.new-known.ensures.calls tt };
}

pub returns-then-place-frames : goal.returns-then-place-frames
returns-then-place-frames c = record {
  first = no_more_frames c.args.classes.now c.args.typed.now c.loop-place.place c.loop-place.known c.loop-place.invariant (subst (λ n. n ≤ c.loop-place.place) (ap length c.as_slice-frames.ensures) c.if-place-frames.true);
}

pub lacks-requires-clause-there : goal.lacks-requires-clause-there
lacks-requires-clause-there c =
    is_there c.args.classes.now c.args.typed.now c.loop-place.place c.loop-place.known c.loop-place.invariant (subst (λ (list : List code_frame.Frame). c.loop-place.place < length list) c.as_slice-frames.ensures c.if-place-frames.false)

pub lacks-requires-clause-known : goal.lacks-requires-clause-known
lacks-requires-clause-known c = c.loop-place.invariant.known_so

pub returns-then-lacks : goal.returns-then-lacks
returns-then-lacks c = record {
  first = found_first c.args.classes.now c.args.typed.now c.loop-place.place c.loop-place.known c.loop-place.invariant (subst (λ (list : List code_frame.Frame). c.loop-place.place < length list) c.as_slice-frames.ensures c.if-place-frames.false)
      c.index-instructions-place.result (item_at c.as_slice-instructions.result.now c.args.typed.now.code.instructions c.loop-place.place c.index-instructions-place.result c.as_slice-instructions.ensures c.loop-place-test.true c.index-instructions-place.is) c.in_ok-lacks.lacks c.in_ok-lacks.ensures.lacks c.if-lacks.true;
}

pub loop-place-preserved : goal.loop-place-preserved
loop-place-preserved c =
    further c.args.classes.now c.args.typed.now c.loop-place.place c.loop-place.known c.loop-place.invariant (subst (λ (list : List code_frame.Frame). c.loop-place.place < length list) c.as_slice-frames.ensures c.if-place-frames.false)
    c.index-instructions-place.result (item_at c.as_slice-instructions.result.now c.args.typed.now.code.instructions c.loop-place.place c.index-instructions-place.result c.as_slice-instructions.ensures c.loop-place-test.true c.index-instructions-place.is) c.in_ok-lacks.lacks c.in_ok-lacks.ensures.lacks c.if-lacks.false c.lacks.new.known c.in_ok-lacks.ensures.known

pub returns : goal.returns
returns c = record {
  first = none_more c.args.classes.now c.args.typed.now c.loop-place.place c.loop-place.known c.loop-place.invariant (subst (λ n. n ≤ c.loop-place.place) (ap length c.as_slice-instructions.ensures) c.loop-place-test.false);
}
