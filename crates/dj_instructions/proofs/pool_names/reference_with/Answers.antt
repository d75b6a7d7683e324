use Rattle.dj_instructions.proofs.pool_names.reference_with.Goals as goal

pub returns-in-None : goal.returns-in-None
returns-in-None c = let none = rw c.in-None.is at c.in_ok-member.ensures.named in record { reference = λ x h. none x.member h.member }
