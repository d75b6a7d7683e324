use Rattle.dj_pool.specs.PoolFormat.{text_at}
use Rattle.dj_world.proofs.NamedLemmas.{learns_class_text}
use Rattle.dj_world.proofs.named.learn_class_at.Goals as goal

pub returns : goal.returns
returns c = record {
  learns =
      learns_class_text c.args.names.now c.learn_name_at.new.names c.learn_descriptor_at.new.names (text_at c.args.pool.now c.args.index) c.in_ok-learn_name_at.ensures.learns c.in_ok-learn_descriptor_at.ensures.learns;
}
