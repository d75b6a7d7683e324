use Rattle.dj_parameters.proofs.Ready.{ready_with_parameters}
use Rattle.dj_parameters.proofs.Showing.{shows_with_parameters}
use Rattle.dj_parameters.proofs.laws.parameters_take_the_place_of_copies.Goals as goal

pub returns : goal.returns
returns c = record { ready = ready_with_parameters; shows = shows_with_parameters }
