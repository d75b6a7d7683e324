use Rattle.std.proofs.lemmas.Bool.{both_ways}
use Rattle.dj_causes.specs.ClassCauses.{IsSaid}
use Rattle.dj_causes.proofs.FirstLemmas.{found_from_start, found_behind, found_here, found_nowhere}
use Rattle.dj_causes.proofs.class_causes.first_unsaid.Goals as goal

pub loop-name-init : goal.loop-name-init
loop-name-init c = λ class is_scope. found_from_start (λ name. ¬ IsSaid c.args.world.now class name) c.args.names.now

pub loop-name-preserved : goal.loop-name-preserved
loop-name-preserved c = λ class is_scope.
    found_behind (λ name. ¬ IsSaid c.args.world.now class name) c.args.names.now c.loop-name.name-index c.name-item.result c.loop-name-test.true c.name-item.is (c.loop-name.invariant class is_scope)
    (λ none. both_ways c.in_ok-unsaid.unsaid c.if-unsaid.false ((c.in_ok-unsaid.ensures.unsaid class is_scope).1 none))

pub returns-then-unsaid : goal.returns-then-unsaid
returns-then-unsaid c = record {
  first = λ class is_scope. rw c.in_ok-units_of.ensures.units (found_here (λ name. ¬ IsSaid c.args.world.now class name) c.args.names.now c.loop-name.name-index c.name-item.result c.loop-name-test.true c.name-item.is (c.loop-name.invariant class is_scope)
      ((c.in_ok-unsaid.ensures.unsaid class is_scope).0 c.if-unsaid.true));
}

pub returns : goal.returns
returns c = record {
  first = λ class is_scope. found_nowhere (λ name. ¬ IsSaid c.args.world.now class name) c.args.names.now c.loop-name.name-index c.loop-name-test.false (c.loop-name.invariant class is_scope);
}
