use Rattle.std.proofs.Common.{◌∙◌}
use Rattle.dj_pending.specs.Stacks.{stacked}
use Rattle.dj_pending.proofs.StepLemmas.{born-there, born-nowhere}
use Rattle.dj_pending.proofs.stack.Stack.is_born.Goals as goal

pub returns-in-Some : goal.returns-in-Some
returns-in-Some c = record { born = c.is_born.ensures.born ∙ born-there (stacked c.args.self.now) _ c.in-Some.ensures.entry }

pub returns-in-None : goal.returns-in-None
returns-in-None c = record { born = born-nowhere (stacked c.args.self.now) c.in-None.ensures.entry }
