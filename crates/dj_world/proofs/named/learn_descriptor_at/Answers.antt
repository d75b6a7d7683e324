use Rattle.dj_pool.specs.PoolFormat.{text_at}
use Rattle.dj_world.proofs.NamedLemmas.{learns_read, learns_unread}
use Rattle.dj_world.proofs.named.learn_descriptor_at.Goals as goal

pub returns-in_ok-learn_descriptor-in-Some : goal.returns-in_ok-learn_descriptor-in-Some
returns-in_ok-learn_descriptor-in-Some c =
    record { learns = learns_read c.args.names.now c.learn_descriptor.new.names (text_at c.args.pool.now c.args.index) c.in-Some.descriptor.now c.in-Some.ensures.read c.in_ok-learn_descriptor-in-Some.ensures.learns }

pub returns-in-None : goal.returns-in-None
returns-in-None c = record { learns = learns_unread c.args.names.now (text_at c.args.pool.now c.args.index) c.in-None.ensures.read }
