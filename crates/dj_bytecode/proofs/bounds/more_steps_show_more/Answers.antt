use Rattle.dj_bytecode.proofs.Growth.{more_shows_more}
use Rattle.dj_bytecode.proofs.bounds.more_steps_show_more.Goals as goal

pub returns : goal.returns
returns c = record { more = more_shows_more }
