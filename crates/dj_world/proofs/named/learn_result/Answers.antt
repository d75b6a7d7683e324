use Rattle.dj_world.proofs.NamedLemmas.{learns_some_result, learns_no_result}
use Rattle.dj_world.proofs.named.learn_result.Goals as goal

pub returns-in_ok-learn_type-in-Some : goal.returns-in_ok-learn_type-in-Some
returns-in_ok-learn_type-in-Some c = record { learns = learns_some_result c.args.names.now c.learn_type.new.names c.args.kind.now c.in-Some.kind c.in-Some.is c.in_ok-learn_type-in-Some.ensures.learns }

pub returns-in-None : goal.returns-in-None
returns-in-None c = record { learns = learns_no_result c.args.names.now c.args.kind.now c.in-None.is }
