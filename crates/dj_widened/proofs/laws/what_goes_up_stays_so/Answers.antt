use Rattle.dj_widened.proofs.Paths.{subclass_up, implements_up}
use Rattle.dj_widened.proofs.Types.{subtype_kept}
use Rattle.dj_widened.proofs.laws.what_goes_up_stays_so.Goals as goal

pub returns : goal.returns
returns c = record {
  subclass = λ world headers wide lower upper. subclass_up world headers wide;
  implements = λ world headers wide lower upper. implements_up world headers wide;
  subtype = λ world headers wide from to. subtype_kept world headers wide;
}
