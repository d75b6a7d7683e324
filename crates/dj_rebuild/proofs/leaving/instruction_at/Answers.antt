use Rattle.dj_rebuild.proofs.Items.{first-there}
use Rattle.dj_rebuild.proofs.leaving.instruction_at.Goals as goal

pub returns-then-at-instructions : goal.returns-then-at-instructions
returns-then-at-instructions c = record { found = first-there c.args.instructions.now c.args.at c.index-instructions-at.result c.if-at-instructions.true }
