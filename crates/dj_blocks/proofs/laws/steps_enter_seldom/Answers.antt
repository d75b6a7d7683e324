use Rattle.dj_blocks.proofs.Blocks.{entered_seldom}
use Rattle.dj_blocks.proofs.laws.steps_enter_seldom.Goals as goal

pub returns : goal.returns
returns g c = record { seldom = entered_seldom }
