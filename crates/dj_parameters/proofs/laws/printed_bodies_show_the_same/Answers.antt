use Rattle.dj_parameters.proofs.Printed.{printed_is_typed, printed_shows}
use Rattle.dj_parameters.proofs.laws.printed_bodies_show_the_same.Goals as goal

pub returns : goal.returns
returns c = record { typed = printed_is_typed; shows = printed_shows }
