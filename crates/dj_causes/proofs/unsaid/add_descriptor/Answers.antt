use Rattle.dj_causes.proofs.HeadLemmas.{gains_field, gains_method}
use Rattle.dj_causes.proofs.unsaid.add_descriptor.Goals as goal

pub returns-in_ok-add_type-in-Field : goal.returns-in_ok-add_type-in-Field
returns-in_ok-add_type-in-Field c = record { gains = gains_field c.args.names.now c.add_type.new.names c.args.descriptor.now c.in-Field.kind c.in-Field.is c.in_ok-add_type-in-Field.ensures.gains }

pub returns-in_ok-add_result-in-Method : goal.returns-in_ok-add_result-in-Method
returns-in_ok-add_result-in-Method c = record {
  gains =
      gains_method c.args.names.now c.add_types.new.names c.add_result.new.names c.args.descriptor.now c.in-Method.parameters c.in-Method.answer c.in-Method.is (rw c.as_slice.ensures.items at c.in_ok-add_types-in-Method.ensures.gains)
      c.in_ok-add_result-in-Method.ensures.gains;
}
