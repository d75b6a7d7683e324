use Rattle.dj_moves.proofs.Moving.{wanted_are_those, puts_are_moves, copies_are_moves}
use Rattle.dj_moves.proofs.laws.edges_are_moves.Goals as goal

pub returns : goal.returns
returns c = record { wanted = wanted_are_those; puts = puts_are_moves; copies = copies_are_moves }
