use Rattle.dj_lone_exits.proofs.Lone.{lone-exits-mean, lone-edges-serve}
use Rattle.dj_lone_exits.proofs.laws.lone_exits_mean.Goals as goal

pub returns : goal.returns
returns c = record { mean = lone-exits-mean; serve = lone-edges-serve }
