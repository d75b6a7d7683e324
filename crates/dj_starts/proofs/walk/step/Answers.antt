use Rattle.dj_starts.proofs.Stepping.{step_is}
use Rattle.dj_starts.proofs.walk.step.Goals as goal

pub push_new-requires-clause-below : goal.push_new-requires-clause-below
push_new-requires-clause-below c = λ start h. c.requires.below start ((c.stop_fenced.ensures.left start).0 ((c.walk_over.ensures.over.unborn start).0 h).0).0

pub returns : goal.returns
returns c = record {
  step = step_is c.args.fenced c.args.pc c.args.here c.args.behind c.args.ended c.args.walk.now c.stop_fenced.new.unborn c.walk_over.new.walk c.push_new.new.unborn c.stop_fenced.ensures.left c.walk_over.ensures.over c.in_ok-push_new.ensures.rising c.in_ok-push_new.ensures.begun;
}
