use Rattle.std.proofs.Common.{Any}
use Rattle.dj_frames.specs.Frames.{view_frame}
use Rattle.dj_sayable.proofs.GatheringLemmas.{gains_behind}
use Rattle.dj_code_causes.specs.NamedIn.{IsInFrame}
use Rattle.dj_code_causes.proofs.Naming.{gains_these}
use Rattle.dj_code_causes.proofs.names.add_frames.Goals as goal

pub returns : goal.returns
returns c = record {
  gains = gains_these c.args.names.now c.add_all.new.names c.in_ok-found.found (λ name. Any (λ at. IsInFrame (view_frame at.1) name) c.args.frames.now) c.in_ok-found.ensures.names
      (rw (rw c.as_slice.ensures at c.in_ok-add_all.ensures.behind) (gains_behind c.args.names.now c.in_ok-found.found));
}
