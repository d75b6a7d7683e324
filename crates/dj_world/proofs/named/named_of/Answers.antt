use Rattle.dj_world.proofs.NamedLemmas.{are_named}
use Rattle.dj_world.proofs.named.named_of.Goals as goal

pub returns : goal.returns
returns c = record {
  named =
      are_named c.args.class.now c.in_ok-named.named c.new-names.result c.learn.new.names c.learn_pool.new.names c.learn_fields.new.names c.learn_methods.new.names c.new-names.ensures.empty
      c.in_ok-learn.ensures.learns c.in_ok-learn_pool.ensures.learns (rw c.as_slice.ensures at c.in_ok-learn_fields.ensures.learns) (rw c.as_slice-2.ensures at c.in_ok-learn_methods.ensures.learns)
      c.in_ok-named.ensures.listed c.in_ok-named.ensures.rising;
}
