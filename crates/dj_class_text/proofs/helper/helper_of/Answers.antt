use Rattle.std.proofs.Common.{ap, Some, refl}
use Rattle.dj_class_text.proofs.helper.helper_of.Goals as goal

pub returns-in_ok-name : goal.returns-in_ok-name
returns-in_ok-name c = record {
  helper = λ world causes.
      let found = c.in_ok-name.ensures.free world causes in
      rw (← c.methods_have_rethrow.ensures.have, c.if-methods_have_rethrow.true) (found.0, found.1, ap Some found.2);
}

pub returns-else-methods_have_rethrow : goal.returns-else-methods_have_rethrow
returns-else-methods_have_rethrow c = record { helper = λ world causes. rw (← c.methods_have_rethrow.ensures.have, c.if-methods_have_rethrow.false) refl }
