use Rattle.dj_worlds_load.proofs.Loading.{loadable, run}
use Rattle.dj_worlds_load.proofs.laws.worlds_may_run.Goals as goal

pub returns : goal.returns
returns c = record { loadable = loadable; run = run }
