use Rattle.std.proofs.Common.{inl}
use Rattle.dj_causes.specs.ClassCauses.{IsSaid}
use Rattle.std.proofs.lemmas.Bool.{both_ways}
use Rattle.dj_causes.proofs.FirstLemmas.{first_of_more}
use Rattle.dj_causes.proofs.class_causes.first_unsaid_of.Goals as goal

pub returns-in_ok-units : goal.returns-in_ok-units
returns-in_ok-units c = record {
  first = λ class is_scope. inl ((c.in_ok-unsaid.ensures.unsaid class is_scope).0 c.if-unsaid.true, c.in_ok-units.ensures.units);
}

pub returns-in_ok-found : goal.returns-in_ok-found
returns-in_ok-found c = record {
  first = λ class is_scope.
      first_of_more (λ parent. ¬ IsSaid c.args.world.now class parent) c.args.first.now c.args.others.now c.in_ok-found.found
      (λ none. both_ways c.in_ok-unsaid.unsaid c.if-unsaid.false ((c.in_ok-unsaid.ensures.unsaid class is_scope).1 none)) (c.in_ok-found.ensures.first class is_scope);
}
