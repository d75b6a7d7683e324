use Rattle.dj_rebuild.proofs.Items.{pc-there}
use Rattle.dj_rebuild.proofs.walking.pc_at.Goals as goal

pub returns-then-at-instructions : goal.returns-then-at-instructions
returns-then-at-instructions c = record { pc = pc-there c.args.instructions.now c.args.at c.index-instructions-at.result c.if-at-instructions.true }
