use Rattle.std.proofs.Common.{IsBitSet}
use Rattle.std.proofs.lemmas.Bool.{both_ways}
use Rattle.dj_class.specs.Views.{view_class}
use Rattle.dj_causes.specs.ClassCauses.{IsFirstUnset}
use Rattle.dj_causes.proofs.FirstLemmas.{with_premise}
use Rattle.dj_causes.proofs.class_causes.unset_field.Goals as goal

pub returns-then-is_interface : goal.returns-then-is_interface
returns-then-is_interface c = record {
  first = with_premise (IsBitSet c.args.class.now.flags 9) (IsFirstUnset (view_class c.args.class.now).fields) (λ field. field.now.name) c.first_unset.result
      (c.is_interface.ensures.exact.0 c.if-is_interface.true) (rw c.as_slice.ensures at c.first_unset.ensures.first);
}

pub returns-else-is_interface : goal.returns-else-is_interface
returns-else-is_interface c = record { first = λ name both. both_ways c.is_interface.result c.if-is_interface.false (c.is_interface.ensures.exact.1 both.0) }
