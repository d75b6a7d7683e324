use Rattle.dj_pending.specs.Stacks.{stacked}
use Rattle.dj_rebuild.proofs.Deep.{after-is}
use Rattle.dj_rebuild.proofs.around.after.Goals as goal

pub returns-then-is_deep : goal.returns-then-is_deep
returns-then-is_deep c = record { after = after-is (stacked c.args.stack.now) c.is_deep.result c.has_birth.result c.is_deep.ensures.deep c.if-is_deep.true c.has_birth.ensures.birth }
