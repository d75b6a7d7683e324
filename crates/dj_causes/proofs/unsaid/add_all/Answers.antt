use Rattle.dj_causes.proofs.HeadLemmas.{behind_more}
use Rattle.dj_causes.proofs.unsaid.add_all.Goals as goal

pub loop-name-preserved : goal.loop-name-preserved
loop-name-preserved c = behind_more c.args.names.now c.args.more.now c.loop-name.name-index c.name-item.result c.loop-name.names c.add_name.new.names c.loop-name-test.true c.name-item.is c.loop-name.invariant c.in_ok-add_name.ensures.added
