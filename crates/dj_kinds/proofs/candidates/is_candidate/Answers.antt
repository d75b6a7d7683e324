use Rattle.std.proofs.lemmas.Bool.{false≢true}
use Rattle.dj_kinds.proofs.candidates.is_candidate.Goals as goal

pub returns-in-None : goal.returns-in-None
returns-in-None c = record { candidate = (λ is. absurd (false≢true is), λ h. absurd (c.in-None.ensures.none h.method h.is_method)) }
