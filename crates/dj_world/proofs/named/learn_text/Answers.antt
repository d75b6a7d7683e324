use Rattle.std.proofs.Common.{◌∙◌}
use Rattle.dj_pool.specs.PoolFormat.{text_at}
use Rattle.dj_world.proofs.NamedLemmas.{learns_text, learns_unknown}
use Rattle.dj_world.proofs.named.learn_text.Goals as goal

pub returns-in_ok-learn-in-Some : goal.returns-in_ok-learn-in-Some
returns-in_ok-learn-in-Some c = record {
  learns =
      learns_text c.args.names.now c.learn.new.names (text_at c.args.pool.now c.args.index) c.in-Some.units.now c.new-name.result c.in-Some.ensures.text (c.new-name.ensures.units ∙ c.in_ok-copy-in-Some.ensures.equal)
      c.in_ok-learn-in-Some.ensures.learns;
}

pub returns-in-None : goal.returns-in-None
returns-in-None c = record { learns = learns_unknown c.args.names.now (text_at c.args.pool.now c.args.index) c.in-None.ensures.text }
