use Rattle.dj_instructions.specs.Instructions.{view_instructions}
use Rattle.dj_birth_causes.proofs.Deepening.{deep_here}
use Rattle.dj_birth_causes.proofs.comparisons.first_deep.Goals as goal

pub returns-then-is_deep : goal.returns-then-is_deep
returns-then-is_deep c = record {
  first = deep_here (view_instructions c.args.instructions.now) c.loop-left.count c.loop-left.left.now c.at-item.result c.in-len1-up.len_at_least c.at-item.is c.loop-left.invariant
      (rw c.part_of-part.ensures.part at (c.is_deep.ensures.deep.0 c.if-is_deep.true));
}
