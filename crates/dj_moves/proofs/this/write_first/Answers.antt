use Rattle.std.proofs.Common.{true, false, sym, ◌∙◌}
use Rattle.dj_moves.proofs.Writes.{write-step}
use Rattle.dj_moves.proofs.this.write_first.Goals as goal

pub loop-at-preserved : goal.loop-at-preserved
loop-at-preserved c = sym (write-step c.args.instructions.now c.loop-at.at-index c.at-item.result c.at-item.is c.loop-at-test.true false (sym c.if-writes_first.ensures.writes)) ∙ c.loop-at.invariant

pub returns-then-writes_first : goal.returns-then-writes_first
returns-then-writes_first c = record {
  writes = sym (write-step c.args.instructions.now c.loop-at.at-index c.at-item.result c.at-item.is c.loop-at-test.true true (sym c.if-writes_first.ensures.writes)) ∙ c.loop-at.invariant;
}
