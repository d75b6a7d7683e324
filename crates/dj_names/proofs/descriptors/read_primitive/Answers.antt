use Rattle.std.proofs.Common.{refl}
use Rattle.dj_names.proofs.TypeLemmas.{no_letter}
use Rattle.dj_names.proofs.descriptors.read_primitive.Goals as goal

pub returns-in_default-clause-none : goal.returns-in_default-clause-none
returns-in_default-clause-none c = (no_letter _ _ c.in_default.ensures.none, refl)
