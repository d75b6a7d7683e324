use Rattle.dj_meaning.proofs.EndingTrees.{ends-all, ends-statements}
use Rattle.dj_meaning.proofs.laws.statements_end_as_formed.Goals as goal

pub returns : goal.returns
returns c = record {
  ways = λ context scope bound list. (ends-all context scope bound list).ends;
  of_body = λ context scope bound list. (ends-statements context scope bound list).ends;
}
