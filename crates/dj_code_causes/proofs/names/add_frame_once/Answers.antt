use Rattle.dj_frames.specs.Frames.{view_frame}
use Rattle.dj_code_causes.specs.NamedIn.{IsInFrame}
use Rattle.dj_code_causes.proofs.Naming.{gains_these}
use Rattle.dj_code_causes.proofs.names.add_frame_once.Goals as goal

pub returns-clause-gains : goal.returns-clause-gains
returns-clause-gains c =
    let frame = view_frame c.args.frame.now in
    gains_these c.args.named.now.names c.include_all.new.self.names c.add_frame.new.names (IsInFrame frame)
    (rw c.new-names.ensures at c.in_ok-add_frame.ensures.gains) (rw c.as_slice.ensures at c.in_ok-include_all.ensures.gains)
