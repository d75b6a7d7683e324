use Rattle.dj_causes.proofs.HeadLemmas.{gains_some_result, gains_no_result}
use Rattle.dj_causes.proofs.unsaid.add_result.Goals as goal

pub returns-in_ok-add_type-in-Some : goal.returns-in_ok-add_type-in-Some
returns-in_ok-add_type-in-Some c = record { gains = gains_some_result c.args.names.now c.add_type.new.names c.args.kind.now c.in-Some.kind c.in-Some.is c.in_ok-add_type-in-Some.ensures.gains }

pub returns-in-None : goal.returns-in-None
returns-in-None c = record { gains = gains_no_result c.args.names.now c.args.kind.now c.in-None.is }
