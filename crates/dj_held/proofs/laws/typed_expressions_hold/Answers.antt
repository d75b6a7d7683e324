use Rattle.dj_held.proofs.Expressions.{value_holds}
use Rattle.dj_held.proofs.laws.typed_expressions_hold.Goals as goal

pub returns : goal.returns
returns c = record { holds = value_holds }
