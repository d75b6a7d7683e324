use Rattle.dj_values.proofs.Growth.{rises-outside, shown-below}
use Rattle.dj_values.proofs.runs.longer_runs_show_more.Goals as goal

pub returns : goal.returns
returns g c = record {
  adds = λ headers reply. (rises-outside headers reply).rises;
  shown = shown-below;
}
