use Rattle.dj_loaded.proofs.Roots.{roots}
use Rattle.dj_widened.proofs.laws.what_may_run_widens.Goals as goal

pub returns : goal.returns
returns c = record {
  widens = λ world headers core may. record {
    others = may.others;
    first = may.first;
    distinct = may.loadable.distinct;
    no_circle = may.loadable.no_circle;
    roots = roots world headers core may;
    object = core.object;
  };
}
