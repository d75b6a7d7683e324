use Rattle.dj_class.specs.Views.{view_class, view_field}
use Rattle.dj_causes.specs.FieldCauses.{IsRepeated, HasWrongConstant}
use Rattle.dj_causes.proofs.ClassCauseLemmas.{fails}
use Rattle.dj_causes.proofs.FieldCauseLemmas.{least_name, least_signature, least_constant, none_of_field}
use Rattle.dj_causes.proofs.tables.Tables.field_cause.Goals as goal

pub returns-in-Some : goal.returns-in-Some
returns-in-Some c = record { first = least_name c.args.world.now (view_class c.args.class.now) c.args.at (view_field c.field_at-field.result.now) c.field_at-field.ensures.there c.in-Some.name (rw c.in-Some.is at c.in_ok-name.ensures.first) }

pub returns-then-is_repeated : goal.returns-then-is_repeated
returns-then-is_repeated c = record {
  first = least_signature c.args.world.now (view_class c.args.class.now) c.args.at (view_field c.field_at-field.result.now) c.field_at-field.ensures.there (rw c.in_default.is at c.in_ok-name.ensures.first)
      (rw c.requires.made.fields at (c.is_repeated.ensures.repeated.0 c.if-is_repeated.true));
}

pub returns-then-has_wrong_constant : goal.returns-then-has_wrong_constant
returns-then-has_wrong_constant c = record {
  first = least_constant c.args.world.now (view_class c.args.class.now) c.args.at (view_field c.field_at-field.result.now) c.field_at-field.ensures.there (rw c.in_default.is at c.in_ok-name.ensures.first)
      (rw c.requires.made.fields at (fails c.is_repeated.result (IsRepeated c.args.self.now.fields c.args.at) c.is_repeated.ensures.repeated c.if-is_repeated.false))
      (c.has_wrong_constant.ensures.wrong.0 c.if-has_wrong_constant.true);
}

pub returns : goal.returns
returns c = record {
  first = none_of_field c.args.world.now (view_class c.args.class.now) c.args.at (view_field c.field_at-field.result.now) c.field_at-field.ensures.there (rw c.in_default.is at c.in_ok-name.ensures.first)
      (rw c.requires.made.fields at (fails c.is_repeated.result (IsRepeated c.args.self.now.fields c.args.at) c.is_repeated.ensures.repeated c.if-is_repeated.false))
      (fails c.has_wrong_constant.result (HasWrongConstant (view_field c.field_at-field.result.now)) c.has_wrong_constant.ensures.wrong c.if-has_wrong_constant.false);
}
