use Rattle.std.proofs.Common.{refl}
use Rattle.dj_code.specs.MethodCode.{view_typed}
use Rattle.dj_receivers.proofs.Following.{finishes_run, finishes_past, finishes_empty}
use Rattle.dj_receivers.proofs.walking.run.Goals as goal

pub returns-in_ok-walk : goal.returns-in_ok-walk
returns-in_ok-walk c = record {
  finishes = finishes_run (view_typed c.args.typed.now) c.args.typed.now.code.instructions refl c.requires.rising c.args.joins.now c.args.marking.now c.restore.new.marking c.args.pc c.in_ok-restore.field-0 c.in_ok-restore.ensures.restores c.if-branch.true
      c.in-Ok.place (rw c.as_slice.ensures at c.in-Ok.ensures.found) c.walk.new.marking c.in_ok-walk.ensures.runs;
}

pub returns-in_default : goal.returns-in_default
returns-in_default c = record {
  finishes = finishes_past (view_typed c.args.typed.now) c.args.typed.now.code.instructions refl c.requires.rising c.args.joins.now c.args.marking.now c.restore.new.marking c.args.pc c.in_ok-restore.field-0 c.in_ok-restore.ensures.restores
      (rw c.as_slice.ensures at c.in_default.ensures.absent);
}

pub returns-else-branch : goal.returns-else-branch
returns-else-branch c = record {
  finishes = finishes_empty (view_typed c.args.typed.now) c.args.typed.now.code.instructions refl c.requires.rising c.args.joins.now c.args.marking.now c.restore.new.marking c.args.pc c.in_ok-restore.field-0 c.in_ok-restore.ensures.restores c.if-branch.false;
}
