use Rattle.std.proofs.Common.{◌∙◌}
use Rattle.dj_pending.specs.Stacks.{stacked}
use Rattle.dj_pending.proofs.ShuffleLemmas.{at_place, at_none}
use Rattle.dj_pending.proofs.moving.copied.Goals as goal

pub returns-in_ok-copy-in-Some : goal.returns-in_ok-copy-in-Some
returns-in_ok-copy-in-Some c = record { copied = c.in_ok-copy-in-Some.ensures.equal ∙ at_place (stacked c.args.stack.now) c.args.place _ c.in-Some.ensures.entry }

pub returns-in-None : goal.returns-in-None
returns-in-None c = record { copied = at_none (stacked c.args.stack.now) c.args.place c.in-None.ensures.entry }
