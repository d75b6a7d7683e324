use Rattle.dj_meaning.proofs.Lists.{joined-runs}
use Rattle.dj_meaning.proofs.laws.lists_run_in_turn.Goals as goal

pub returns : goal.returns
returns c = record { joined = joined-runs }
