use Rattle.dj_exits.proofs.Straight.{formulas-pend, straight-returns}
use Rattle.dj_exits.proofs.laws.straight_blocks_return.Goals as goal

pub returns : goal.returns
returns c = record { pend = formulas-pend; returns = straight-returns }
