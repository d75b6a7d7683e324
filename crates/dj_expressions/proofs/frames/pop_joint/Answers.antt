use Rattle.dj_expressions.proofs.OpenLemmas.{waiting-taken}
use Rattle.dj_expressions.proofs.frames.pop_joint.Goals as goal

pub returns-in-Some : goal.returns-in-Some
returns-in-Some c = record {
  waiting = waiting-taken c.args.pending.now c.pop.new.self c.in-Some.frame c.into_parts.result c.ok.result c.in-Some.ensures c.into_parts.ensures.parts c.ok.ensures.value;
}
