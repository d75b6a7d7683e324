use Rattle.dj_instructions.proofs.constants.method_handle.Goals as goal

pub returns-in-None : goal.returns-in-None
returns-in-None c = let none = rw c.in-None.is at c.in_ok-reference.ensures.named in record { meant = λ i h. none h.0 h.1 }
