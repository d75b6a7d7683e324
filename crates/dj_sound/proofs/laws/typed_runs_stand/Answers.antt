use Rattle.dj_sound.proofs.Runs.{stands_first, steps_well, handlers_stand}
use Rattle.dj_sound.proofs.laws.typed_runs_stand.Goals as goal

pub returns : goal.returns
returns c = record { begins = stands_first; steps = steps_well; handlers = handlers_stand }
