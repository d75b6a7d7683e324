use Rattle.std.proofs.lemmas.Bool.{both_ways}
use Rattle.dj_pool.specs.PoolFormat.{text_at}
use Rattle.dj_world.proofs.NamedLemmas.{learns_name, learns_no_name}
use Rattle.dj_world.proofs.named.learn_name_at.Goals as goal

pub returns-in_ok-learn_text : goal.returns-in_ok-learn_text
returns-in_ok-learn_text c = record {
  learns =
      learns_name c.args.names.now c.learn_text.new.names (text_at c.args.pool.now c.args.index) (c.is_class_name_at.ensures.named.0 c.if-is_class_name_at.true) c.in_ok-learn_text.ensures.learns;
}

pub returns-else-is_class_name_at : goal.returns-else-is_class_name_at
returns-else-is_class_name_at c = record {
  learns =
      learns_no_name c.args.names.now (text_at c.args.pool.now c.args.index)
      (λ class. both_ways c.is_class_name_at.result c.if-is_class_name_at.false (c.is_class_name_at.ensures.named.1 class));
}
