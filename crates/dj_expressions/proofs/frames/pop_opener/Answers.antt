use Rattle.dj_expressions.proofs.OpenLemmas.{opened-taken}
use Rattle.dj_expressions.proofs.frames.pop_opener.Goals as goal

pub returns-in-Some : goal.returns-in-Some
returns-in-Some c = record {
  opened = opened-taken c.args.pending.now c.pop.new.self c.in-Some.frame c.into_parts.result c.err.result c.in-Some.ensures c.into_parts.ensures.parts c.err.ensures.value;
}
