use Rattle.dj_world.proofs.NamedLemmas.{learns_pair, learns_no_pair}
use Rattle.dj_world.proofs.named.learn_name_and_type.Goals as goal

pub returns-in_ok-learn_descriptor_at-in-Some : goal.returns-in_ok-learn_descriptor_at-in-Some
returns-in_ok-learn_descriptor_at-in-Some c =
    record { learns = learns_pair c.args.pool.now c.args.entry.now c.args.names.now c.learn_descriptor_at.new.names c.in-Some.index c.in-Some.ensures.descriptor c.in_ok-learn_descriptor_at-in-Some.ensures.learns }

pub returns-in-None : goal.returns-in-None
returns-in-None c = record { learns = learns_no_pair c.args.pool.now c.args.entry.now c.args.names.now c.in-None.ensures.descriptor }
