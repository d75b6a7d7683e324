use Rattle.dj_instructions.proofs.plain.with_count.Goals as goal

pub returns-in-185 : goal.returns-in-185
returns-in-185 c = record { meant = rw c.in-185.is (rw c.in-185.is at c.method_call.ensures.meant) }
