use Rattle.dj_given.proofs.Together.{strict_given}
use Rattle.dj_given.proofs.laws.strict_is_given.Goals as goal

pub returns : goal.returns
returns c = record { given = strict_given }
