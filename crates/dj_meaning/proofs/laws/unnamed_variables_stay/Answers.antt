use Rattle.dj_meaning.proofs.Natural.{natural-all, natural-statements}
use Rattle.dj_meaning.proofs.laws.unnamed_variables_stay.Goals as goal

pub returns : goal.returns
returns c = record {
  stays = λ unnamed found context scope bound list others. (natural-all unnamed found context scope bound list others).natural;
  of_body = λ unnamed found context scope bound list others. (natural-statements unnamed found context scope bound list others).natural;
}
