use Rattle.dj_body_types.proofs.GroupLemmas.{not_formed, formed_more}
use Rattle.dj_body_types.proofs.labels.are_formed.Goals as goal

pub returns-then-not-is_formed : goal.returns-then-not-is_formed
returns-then-not-is_formed c = record {
  formed = not_formed c.args.groups.now c.loop-index.index c.index-groups-index.result c.is_formed.result c.loop-index-test.true c.index-groups-index.is c.is_formed.ensures.formed c.if-not-is_formed.true c.loop-index.invariant.formed;
}

pub loop-index-preserved : goal.loop-index-preserved
loop-index-preserved c = record {
  formed = formed_more c.args.groups.now c.loop-index.index c.index-groups-index.result c.is_formed.result c.loop-index-test.true c.index-groups-index.is c.is_formed.ensures.formed c.if-not-is_formed.false c.loop-index.invariant.formed;
}
