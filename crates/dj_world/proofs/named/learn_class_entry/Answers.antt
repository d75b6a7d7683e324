use Rattle.dj_world.proofs.NamedLemmas.{learns_class, learns_no_class}
use Rattle.dj_world.proofs.named.learn_class_entry.Goals as goal

pub returns-in_ok-learn_class_at-in-Some : goal.returns-in_ok-learn_class_at-in-Some
returns-in_ok-learn_class_at-in-Some c =
    record { learns = learns_class c.args.pool.now c.args.entry.now c.args.names.now c.learn_class_at.new.names c.in-Some.index c.in-Some.ensures.name c.in_ok-learn_class_at-in-Some.ensures.learns }

pub returns-in-None : goal.returns-in-None
returns-in-None c = record { learns = learns_no_class c.args.pool.now c.args.entry.now c.args.names.now c.in-None.ensures.name }
