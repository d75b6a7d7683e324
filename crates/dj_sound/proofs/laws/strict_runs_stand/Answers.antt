use Rattle.dj_sound.proofs.Runs.{begins_strictly, steps_strictly, handlers_strictly, operands_strictly, meets_strictly, held_goes, thrown_strictly, described_shaped}
use Rattle.dj_sound.proofs.laws.strict_runs_stand.Goals as goal

pub returns : goal.returns
returns c = record { begins = begins_strictly; steps = steps_strictly; handlers = handlers_strictly; operands = operands_strictly; wanted = meets_strictly; goes = held_goes; thrown = thrown_strictly; shapes = described_shaped }
