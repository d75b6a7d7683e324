use Rattle.dj_code.specs.MethodCode.{view_typed}
use Rattle.dj_receivers.proofs.Finishing.{begun_sound, told_all}
use Rattle.dj_receivers.proofs.calls.calls_kept.Goals as goal

pub finish-requires-clause-sound : goal.finish-requires-clause-sound
finish-requires-clause-sound c = begun_sound (view_typed c.args.typed.now) c.len.result c.in_ok-marking.marking c.in_ok-marking.ensures.begins

pub returns : goal.returns
returns c = record {
  calls = told_all (view_typed c.args.typed.now) c.in_ok-joins.joins c.in_ok-joins.ensures.joins c.in_ok-marking.marking c.finish.new.marking (rw c.len.ensures at c.in_ok-marking.ensures.begins) (rw c.as_slice.ensures at c.in_ok-finish.ensures.closes)
      c.requires.keeps;
}
