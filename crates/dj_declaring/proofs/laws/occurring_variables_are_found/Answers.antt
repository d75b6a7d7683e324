use Rattle.dj_declaring.proofs.Occurring.{occurring_are_found}
use Rattle.dj_declaring.proofs.laws.occurring_variables_are_found.Goals as goal

pub returns : goal.returns
returns c = record { found = occurring_are_found }
