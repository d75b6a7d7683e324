use Rattle.std.proofs.lemmas.Bool.{both_ways}
use Rattle.dj_sayable.specs.Saying.{HasPackage}
use Rattle.dj_sayable.proofs.SayingLemmas.{untrue, said_packaged, said_unpackaged}
use Rattle.dj_sayable.proofs.scope.Scope.can_be_said.Goals as goal

pub returns-in_ok-taken : goal.returns-in_ok-taken
returns-in_ok-taken c = record {
  said = λ members class is_scope.
      said_packaged c.args.headers.now members class c.args.name.now c.args.self.now is_scope c.in_ok-taken.taken
      ((c.in_ok-is_unobscured.ensures.unobscured members class is_scope).0 c.if-not-branch.false)
      (rw c.as_slice.ensures.units at (c.has_package.ensures.package.0 c.if-has_package.true)) (rw is_scope.own at c.in_ok-taken.ensures.taken);
}

pub returns-else-has_package : goal.returns-else-has_package
returns-else-has_package c = record {
  said = λ members class is_scope.
      said_unpackaged c.args.headers.now members class c.args.name.now c.args.self.now is_scope _
      ((c.in_ok-is_unobscured.ensures.unobscured members class is_scope).0 c.if-not-branch.false)
      (λ packaged. both_ways c.has_package.result c.if-has_package.false (c.has_package.ensures.package.1 (rw c.as_slice.ensures.units packaged)))
      (untrue c.has_package-else-has_package.result (HasPackage class) (rw (c.as_slice-else-has_package.ensures.units, is_scope.own) at c.has_package-else-has_package.ensures.package));
}
