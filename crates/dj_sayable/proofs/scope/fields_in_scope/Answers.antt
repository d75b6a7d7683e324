use Rattle.dj_sayable.proofs.SayingLemmas.{scope_fields}
use Rattle.dj_sayable.proofs.scope.fields_in_scope.Goals as goal

pub returns : goal.returns
returns c = record {
  fields = scope_fields c.args.headers.now c.args.members.now.classes c.args.class.now c.in_ok-all.all c.in_ok-fields.fields
      (rw (c.as_slice.ensures, c.in_ok-own.ensures.one) at c.in_ok-all.ensures.above) (rw c.as_slice-2.ensures at c.in_ok-fields.ensures.gains);
}
