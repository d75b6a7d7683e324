use Rattle.dj_straight_typed.proofs.StraightTyped.{straight_methods_are_typed}
use Rattle.dj_straight_typed.proofs.typed.straight_methods_are_typed.Goals as goal

pub returns : goal.returns
returns c = record { typed = straight_methods_are_typed }
