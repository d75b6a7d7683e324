use Rattle.std.proofs.Common.{arith}
use Rattle.dj_pending.proofs.StackLemmas.{top_leaves}
use Rattle.dj_pending.proofs.stack.Stack.pop.Goals as goal

pub returns : goal.returns
returns c = record {
  popped = top_leaves c.args.self.now.entries.items c.pop.new.self.items c.pop.result c.pop.ensures.items (λ some. omega (arith, c.pop.ensures.variant.0 some), λ short. c.pop.ensures.variant.1 (omega arith));
}
