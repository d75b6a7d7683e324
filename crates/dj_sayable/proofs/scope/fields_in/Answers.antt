use Rattle.std.proofs.Common.{sym}
use Rattle.dj_sayable.proofs.FieldLemmas.{fields_missing, fields_here}
use Rattle.dj_sayable.proofs.scope.fields_in.Goals as goal

pub returns-in-None-get : goal.returns-in-None-get
returns-in-None-get c = record { fields = fields_missing c.args.headers.now c.args.members.now.classes c.args.class.now c.in-Some.at c.as_slice.ensures.distinct c.in-Some.ensures.place (sym c.in-None-get.ensures.value) }

pub returns-in-Some-get : goal.returns-in-Some-get
returns-in-Some-get c = record {
  fields = rw c.as_slice-in-Some-get.ensures (fields_here c.args.headers.now c.args.members.now.classes c.args.class.now c.in-Some.at c.as_slice.ensures.distinct c.in-Some.ensures.place c.in-Some-get.declared.now (sym c.in-Some-get.ensures.value));
}
