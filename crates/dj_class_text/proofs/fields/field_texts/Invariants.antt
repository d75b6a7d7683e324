use Rattle.dj_syntax.specs.UnitText.{is_interface}
use Rattle.dj_class.specs.Views.{view_class}
use Rattle.dj_class_text.proofs.ShowingLemmas.{ShownSoFar}
use Rattle.dj_class_text.proofs.fields.field_texts.Given as goal

abbrev pub invariant-loop-at : goal.invariant-loop-at
invariant-loop-at l = ShownSoFar l.world (view_class l.class) (is_interface l.class.flags) l.class.fields l.at l.texts
