use Rattle.std.proofs.Common.{IsTrue, sym, ◌∙◌}
use Rattle.dj_instructions.specs.Instructions.{view_instructions}
use Rattle.dj_starts.specs.Starts.{in_range}
use Rattle.dj_birth_causes.proofs.Covering.{held_here}
use Rattle.dj_birth_causes.proofs.beginning.first_covered.Goals as goal

pub returns-then-in_range : goal.returns-then-in_range
returns-then-in_range c = record {
  first = held_here (λ pc. IsTrue (in_range c.args.typed.now.code.handlers pc)) (view_instructions c.args.typed.now.code.instructions) c.loop-left.left.now c.at-item.result c.in-len1-up.len_at_least c.at-item.is c.loop-left.invariant
      (rw c.as_slice-handlers.ensures at (sym c.in_range.ensures.range ∙ c.if-in_range.true));
}
