use Rattle.std.proofs.Common.{Contains}
use Rattle.dj_causes.specs.ClassCauses.{IsSaid}
use Rattle.dj_causes.specs.Tables.{IsUnsaidAbove}
use Rattle.dj_causes.proofs.LeastLemmas.{least_like}
use Rattle.dj_causes.proofs.unsaid.least_unsaid.Goals as goal

pub returns : goal.returns
returns c = record {
  least = λ class is_scope.
      let above = rw c.headers.ensures.headers at c.in_ok-all.ensures.above in
      least_like (λ other. Contains c.in_ok-all.all other × ¬ IsSaid c.args.world.now class other) (IsUnsaidAbove c.args.world.now class (Contains c.args.classes.now))
      (λ name. (λ both. ((above name).0 both.0, both.1), λ both. ((above name).1 both.0, both.1))) c.in_ok-least.least (rw c.as_slice.ensures at (c.in_ok-least.ensures.least class is_scope));
}
