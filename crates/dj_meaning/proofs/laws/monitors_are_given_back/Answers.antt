use Rattle.dj_meaning.proofs.Steady.{steady-all, steady-statements}
use Rattle.dj_meaning.proofs.laws.monitors_are_given_back.Goals as goal

pub returns : goal.returns
returns c = record {
  held = λ context scope bound list. (steady-all context scope bound list).steady;
  of_body = λ context scope bound list. (steady-statements context scope bound list).steady;
}
