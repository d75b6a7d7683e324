use Rattle.std.proofs.Common.{ap, ◌∙◌, [], ◌∷◌}
use Rattle.dj_pending.specs.Stacks.{top_down}
use Rattle.dj_pending.proofs.StackLemmas.{top_down-append}
use Rattle.dj_pending.proofs.stack.Stack.push.Goals as goal

pub returns : goal.returns
returns c = record { pushed = ap top_down c.in_ok-push.ensures.items ∙ top_down-append c.args.self.now.entries.items (c.args.entry ∷ []) }
