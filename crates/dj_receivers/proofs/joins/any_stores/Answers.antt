use Rattle.std.proofs.Common.{sym, ◌∙◌}
use Rattle.dj_receivers.proofs.Joining.{stores_here, stores_next, stores_end}
use Rattle.dj_receivers.proofs.joins.any_stores.Goals as goal

pub returns-then-stores_own : goal.returns-then-stores_own
returns-then-stores_own c = record {
  any = stores_here c.args.instructions.now c.loop-at.at-index c.at-item.result c.loop-at-test.true c.at-item.is c.loop-at.invariant (sym c.stores_own.ensures.stores ∙ c.if-stores_own.true);
}

pub loop-at-preserved : goal.loop-at-preserved
loop-at-preserved c = stores_next c.args.instructions.now c.loop-at.at-index c.at-item.result c.loop-at-test.true c.at-item.is c.loop-at.invariant (sym c.stores_own.ensures.stores ∙ c.if-stores_own.false)

pub returns : goal.returns
returns c = record { any = stores_end c.args.instructions.now c.loop-at.at-index c.loop-at-test.false c.loop-at.invariant }
