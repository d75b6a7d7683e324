use Rattle.dj_causes.specs.BareCauses.{IsMethodName}
use Rattle.dj_causes.proofs.ClassCauseLemmas.{fails}
use Rattle.dj_causes.proofs.LeastLemmas.{least_own, no_own}
use Rattle.dj_causes.proofs.bare.unsaid_method_name.Goals as goal

pub returns-then-is_method_name : goal.returns-then-is_method_name
returns-then-is_method_name c = record { unsaid = no_own (¬ IsMethodName c.args.name.now) c.args.name.now (λ none. none (c.is_method_name.ensures.name.0 c.if-is_method_name.true)) }

pub returns-in_ok-copy : goal.returns-in_ok-copy
returns-in_ok-copy c = record {
  unsaid = rw c.in_ok-copy.ensures.equal (least_own (¬ IsMethodName c.args.name.now) c.args.name.now (fails c.is_method_name.result (IsMethodName c.args.name.now) c.is_method_name.ensures.name c.if-is_method_name.false));
}
