use Rattle.std.proofs.Common.{◌∙◌, ap}
use Rattle.dj_values.specs.Views.{view_value}
use Rattle.dj_operands.specs.Stacks.{stacked}
use Rattle.dj_operands.proofs.Moving.{at_place, at_none}
use Rattle.dj_operands.proofs.shuffles.copied.Goals as goal

pub returns-in_ok-copy-in-Some : goal.returns-in_ok-copy-in-Some
returns-in_ok-copy-in-Some c = record { copied = ap view_value c.in_ok-copy-in-Some.ensures.equal ∙ at_place (stacked c.args.stack.now) c.args.place _ c.in-Some.ensures.value }

pub returns-in-None : goal.returns-in-None
returns-in-None c = record { copied = at_none (stacked c.args.stack.now) c.args.place c.in-None.ensures.value }
