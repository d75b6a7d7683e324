use Rattle.dj_frames.specs.Frames.{view_tags}
use Rattle.dj_verify.proofs.StackWords.{words_are}
use Rattle.dj_verify.proofs.rooms.has_stack_room.Goals as goal

pub returns : goal.returns
returns c = record { room = rw (words_are (view_tags c.args.stack.now)) c.fits.ensures.fits }
