use Rattle.dj_world.proofs.NamedLemmas.{learns_field, learns_method}
use Rattle.dj_world.proofs.named.learn_descriptor.Goals as goal

pub returns-in_ok-learn_type-in-Field : goal.returns-in_ok-learn_type-in-Field
returns-in_ok-learn_type-in-Field c = record { learns = learns_field c.args.names.now c.learn_type.new.names c.args.descriptor.now c.in-Field.kind c.in-Field.is c.in_ok-learn_type-in-Field.ensures.learns }

pub returns-in_ok-learn_result-in-Method : goal.returns-in_ok-learn_result-in-Method
returns-in_ok-learn_result-in-Method c = record {
  learns =
      learns_method c.args.names.now c.learn_types.new.names c.learn_result.new.names c.args.descriptor.now c.in-Method.parameters c.in-Method.answer c.in-Method.is (rw c.as_slice.ensures.items at c.in_ok-learn_types-in-Method.ensures.learns)
      c.in_ok-learn_result-in-Method.ensures.learns;
}
