use Rattle.std.proofs.Common.{arith, map}
use Rattle.std.proofs.lemmas.List.{length-set}
use Rattle.dj_instructions.specs.Instructions.{view_instruction}
use Rattle.dj_frames.specs.Frames.{view_frame}
use Rattle.dj_starts.proofs.Constructing.{noted_set}
use Rattle.dj_starts.proofs.calls.note.Goals as goal

pub returns-then-place-len : goal.returns-then-place-len
returns-then-place-len c =
    rw (c.set.ensures, c.met_once_more-met.ensures.more, c.as_slice.ensures) record { noted = noted_set c.args.at.now.0 (view_instruction c.args.at.now.1) (map view_frame c.args.frames.now) c.args.calls.now c.in-Some.start (omega (arith, c.len.ensures, c.if-place-len.true)) c.in-Some.ensures.constructed (length-set c.args.calls.now c.in-Some.start _) }
