use Rattle.std.proofs.Common.{refl}
use Rattle.std.proofs.lemmas.Bool.{both_ways}
use Rattle.dj_class.specs.Views.{view_field}
use Rattle.dj_causes.specs.ClassCauses.{HasConstant}
use Rattle.dj_causes.proofs.FirstLemmas.{found_from_start, found_behind, found_here, found_nowhere, first_viewed, none_viewed}
use Rattle.dj_causes.proofs.class_causes.first_unset.Goals as goal

pub loop-field-init : goal.loop-field-init
loop-field-init c = found_from_start (λ field. ¬ HasConstant (view_field field)) c.args.fields.now

pub loop-field-preserved : goal.loop-field-preserved
loop-field-preserved c =
    found_behind (λ field. ¬ HasConstant (view_field field)) c.args.fields.now c.loop-field.field-index c.field-item.result c.loop-field-test.true c.field-item.is c.loop-field.invariant
    (λ lacks. both_ways c.lacks_constant.result c.if-lacks_constant.false (c.lacks_constant.ensures.lacks.1 lacks))

pub returns-then-lacks_constant : goal.returns-then-lacks_constant
returns-then-lacks_constant c = record {
  first = record {
    field = view_field c.field-item.result;
    first = first_viewed view_field (λ field. ¬ HasConstant field) c.args.fields.now c.field-item.result
        (found_here (λ field. ¬ HasConstant (view_field field)) c.args.fields.now c.loop-field.field-index c.field-item.result c.loop-field-test.true c.field-item.is c.loop-field.invariant
        (c.lacks_constant.ensures.lacks.0 c.if-lacks_constant.true));
    named = refl;
  };
}

pub returns : goal.returns
returns c = record {
  first = λ name unset. none_viewed view_field (λ field. ¬ HasConstant field) c.args.fields.now
      (found_nowhere (λ field. ¬ HasConstant (view_field field)) c.args.fields.now c.loop-field.field-index c.loop-field-test.false c.loop-field.invariant) unset.field unset.first;
}
