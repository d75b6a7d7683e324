use Rattle.dj_instructions.specs.Meanings.{with_short}
use Rattle.dj_instructions.proofs.plain.with_short.Goals as goal

pub returns-in-193 : goal.returns-in-193
unfolding with_short
returns-in-193 c = record { meant = rw c.in-193.is c.instance_at.ensures.meant }
