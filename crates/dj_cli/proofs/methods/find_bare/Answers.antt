use Rattle.std.proofs.Common.{Some, None, sym, subst, inl}
use Rattle.dj_class.specs.Views.{view_class}
use Rattle.dj_causes.specs.BareCauses.{IsBareCause}
use Rattle.dj_cli.proofs.methods.find_bare.Goals as goal

pub returns-in-Some : goal.returns-in-Some
returns-in-Some c =
    let first = rw c.in-Some.is at c.in_ok-cause.ensures.first in
    record {
      found = λ before method here none. inl (record {
        none = none;
        first = subst (λ at. IsBareCause c.args.world.now (view_class c.args.class.now) at (Some c.in-Some.cause)) (sym here) first;
      });
    }

pub returns-in-None : goal.returns-in-None
returns-in-None c =
    let free = rw c.in-None.is at c.in_ok-cause.ensures.first in
    record {
      found = λ before method here none. record {
        none = none;
        free = subst (λ at. IsBareCause c.args.world.now (view_class c.args.class.now) at None) (sym here) free;
      };
    }
