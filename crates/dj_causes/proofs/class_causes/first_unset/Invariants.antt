use Rattle.dj_class.specs.Views.{view_field}
use Rattle.dj_causes.specs.ClassCauses.{HasConstant}
use Rattle.dj_causes.proofs.FirstLemmas.{IsFoundFrom}
use Rattle.dj_causes.proofs.class_causes.first_unset.Given as goal

abbrev pub invariant-loop-field : goal.invariant-loop-field
invariant-loop-field l = IsFoundFrom (λ field. ¬ HasConstant (view_field field)) l.fields l.field-index
