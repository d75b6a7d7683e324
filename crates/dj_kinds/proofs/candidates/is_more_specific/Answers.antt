use Rattle.std.proofs.Common.{refl}
use Rattle.dj_kinds.proofs.candidates.is_more_specific.Goals as goal

pub returns-in-None : goal.returns-in-None
returns-in-None c = record { specific = (λ is. record { subtypes = λ one other first second. absurd (c.in-None.ensures.none one first) }, λ h. refl) }

pub returns-in-None-method_at : goal.returns-in-None-method_at
returns-in-None-method_at c = record { specific = (λ is. record { subtypes = λ one other first second. absurd (c.in-None-method_at.ensures.none other second) }, λ h. refl) }
