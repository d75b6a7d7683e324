use Rattle.std.proofs.Common.{[], Any, take}
use Rattle.dj_frames.specs.Frames.{view_frame}
use Rattle.dj_code_causes.specs.NamedIn.{IsInFrame}
use Rattle.dj_sayable.specs.Gathering.{HasJust, Gains}
use Rattle.dj_code_causes.proofs.names.names_in_frames.Given as goal

abbrev pub invariant-loop-at : goal.invariant-loop-at
invariant-loop-at l = record {
  paired : HasJust l.named.known l.named.names;
  gains : Gains [] l.named.names (λ name. Any (λ at. IsInFrame (view_frame at.1) name) (take l.at-index l.frames));
}
