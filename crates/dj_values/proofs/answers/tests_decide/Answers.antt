use Rattle.dj_values.proofs.Deciding.{Decides-name, Decides-subclass, Decides-implements, Decides-subtype, Decides-value, Decides-answer}
use Rattle.dj_values.proofs.answers.tests_decide.Goals as goal

pub returns : goal.returns
returns c = record {
  name = Decides-name;
  subclass = Decides-subclass;
  implements = Decides-implements;
  subtype = Decides-subtype;
  value = Decides-value;
  answer = Decides-answer;
}
