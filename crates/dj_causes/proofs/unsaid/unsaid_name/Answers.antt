use Rattle.std.proofs.lemmas.Bool.{both_ways}
use Rattle.dj_causes.specs.ClassCauses.{IsSaid}
use Rattle.dj_causes.proofs.LeastLemmas.{least_alone, least_none}
use Rattle.dj_causes.proofs.unsaid.unsaid_name.Goals as goal

pub returns-in_ok-units : goal.returns-in_ok-units
returns-in_ok-units c = record {
  unsaid = λ class is_scope. rw c.in_ok-units.ensures.units (least_alone (λ other. ¬ IsSaid c.args.world.now class other) c.args.name.now ((c.in_ok-unsaid.ensures.unsaid class is_scope).0 c.if-unsaid.true));
}

pub returns-else-unsaid : goal.returns-else-unsaid
returns-else-unsaid c = record {
  unsaid = λ class is_scope. least_none (λ other. ¬ IsSaid c.args.world.now class other) c.args.name.now (λ none. both_ways c.in_ok-unsaid.unsaid c.if-unsaid.false ((c.in_ok-unsaid.ensures.unsaid class is_scope).1 none));
}
