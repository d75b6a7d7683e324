use Rattle.std.proofs.Common.{refl}
use Rattle.dj_instructions.specs.Instructions.{view_field_ref}
use Rattle.dj_static.specs.Views.{known_of}
use Rattle.dj_member_cause.proofs.FieldLemmas.{none_told, reads}
use Rattle.dj_member_cause.proofs.fields.reads_static.Goals as goal

pub returns-then-same_type : goal.returns-then-same_type
returns-then-same_type c = record {
  reads =
      reads c.args.classes.now (view_field_ref c.args.field.now) (known_of c.in-Some.known.now) (rw c.in-Some.is at c.in_ok-found.ensures.names) (c.if-same_type.ensures.same.0 refl) c.is_none.result
      (none_told c.constant_of.result c.is_none.result c.is_none.ensures (known_of c.in-Some.known.now).constant c.constant_of.ensures.constant);
}
