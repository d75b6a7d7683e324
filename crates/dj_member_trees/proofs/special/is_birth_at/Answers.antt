use Rattle.std.proofs.Common.{◌∙◌}
use Rattle.dj_pending.specs.Stacks.{stacked}
use Rattle.dj_member_trees.proofs.SpecialLemmas.{birth-there, birth-nowhere}
use Rattle.dj_member_trees.proofs.special.is_birth_at.Goals as goal

pub returns-in-Some : goal.returns-in-Some
returns-in-Some c = record { birth = c.is_unborn.ensures.unborn ∙ birth-there c.args.place (stacked c.args.stack.now) _ c.in-Some.ensures.entry }

pub returns-in-None : goal.returns-in-None
returns-in-None c = record { birth = birth-nowhere c.args.place (stacked c.args.stack.now) c.in-None.ensures.entry }
