use Rattle.dj_never_stuck.proofs.Bodies.{typed_is_never_stuck}
use Rattle.dj_never_stuck.proofs.laws.typed_bodies_never_go_wrong.Goals as goal

pub returns : goal.returns
returns c = record { never = typed_is_never_stuck }
