use Rattle.std.proofs.Common.{ℕ, [], arith}
use Rattle.dj_frames.specs.declared.frame.Frame.{Frame}
use Rattle.dj_frames.specs.Frames.{view_frame}
use Rattle.dj_code_causes.specs.NamedIn.{IsInFrame}
use Rattle.dj_names.specs.Headers.{Name}
use Rattle.dj_causes.proofs.HeadLemmas.{gained_none, gained_more, gained_all}
use Rattle.dj_code_causes.proofs.names.names_in_frames.Goals as goal

pub loop-at-init : goal.loop-at-init
loop-at-init c = record {
  paired = c.new-named.ensures.paired;
  gains = rw c.new-named.ensures.none (gained_none (λ (name : Name) (at : ℕ × Frame). IsInFrame (view_frame at.1) name) c.args.frames.now []);
}

pub loop-at-preserved : goal.loop-at-preserved
loop-at-preserved c = record {
  paired = c.in_ok-add_frame_once.ensures.paired;
  gains = gained_more (λ (name : Name) (at : ℕ × Frame). IsInFrame (view_frame at.1) name) c.args.frames.now c.loop-at.at-index c.at-item.result [] c.loop-at.named.names c.add_frame_once.new.named.names (omega arith) c.at-item.is
      c.loop-at.invariant.gains c.in_ok-add_frame_once.ensures.gains;
}

pub returns : goal.returns
returns c = record { names = gained_all (λ (name : Name) (at : ℕ × Frame). IsInFrame (view_frame at.1) name) c.args.frames.now c.loop-at.at-index [] c.loop-at.named.names (omega arith) c.loop-at.invariant.gains }
