use Rattle.dj_constructors_shown.proofs.Method.{constructors-are-shown}
use Rattle.dj_constructors_shown.proofs.laws.constructors_are_shown.Goals as goal

pub returns : goal.returns
returns c = record { constructor = constructors-are-shown }
