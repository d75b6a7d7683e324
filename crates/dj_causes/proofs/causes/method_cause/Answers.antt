use Rattle.std.proofs.Common.{Option, IsSomeAnd, sym, subst}
use Rattle.dj_class.specs.Described.{MethodOf}
use Rattle.dj_class.specs.Views.{view_class}
use Rattle.dj_causes.specs.BareCauses.{IsUnsaid}
use Rattle.dj_causes.proofs.causes.method_cause.Goals as goal

pub returns-in_ok-cause-in-None : goal.returns-in_ok-cause-in-None
returns-in_ok-cause-in-None c = record {
  told = record {
    first = λ method is bare. c.in_ok-cause-in-None.ensures.first;
    said = λ method is bare none name unsaid.
        c.in_ok-cause-in-None.ensures.said none name
        (subst (λ (o : Option MethodOf). IsSomeAnd o (λ m. IsUnsaid c.args.world.now (view_class c.args.class.now) m name)) (sym is) unsaid);
  };
}
