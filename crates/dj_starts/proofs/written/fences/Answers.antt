use Rattle.dj_code.specs.MethodCode.{view_code}
use Rattle.dj_starts.proofs.Walks.{fences_are}
use Rattle.dj_starts.proofs.written.fences.Goals as goal

pub returns : goal.returns
returns c = record {
  fences = fences_are (view_code c.args.code.now) c.in_ok-marks.marks c.mark_given.new.begins c.mark_bounds.new.marks (rw c.as_slice.ensures at c.in_ok-marks.ensures.room) c.in_ok-marks.ensures.none (rw c.as_slice-2.ensures at c.mark_given.ensures.more) (rw c.as_slice-3.ensures at c.mark_bounds.ensures.more);
}
