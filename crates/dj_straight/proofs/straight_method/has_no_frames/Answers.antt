use Rattle.dj_straight.proofs.StraightMethodLemmas.{no_frames_are}
use Rattle.dj_straight.proofs.straight_method.has_no_frames.Goals as goal

pub returns : goal.returns
returns c = record { none = no_frames_are c.args.code.now.frames c.is_empty.result c.is_empty.ensures }
