use Rattle.std.proofs.Common.{◌≡◌, ◌≤◌, length, map, take}
use Rattle.std.specs.Prelude.{reverse}
use Rattle.dj_syntax.specs.Trees as trees
use Rattle.dj_syntax.specs.UnitText.{is_interface}
use Rattle.dj_class.specs.Views.{view_class}
use Rattle.dj_class_text.proofs.ShowingLemmas.{ShowsFrom}
use Rattle.dj_class_text.proofs.methods.method_texts.Given as goal

abbrev pub invariant-loop-body : goal.invariant-loop-body
invariant-loop-body l = record {
  front : l.bodies ≡ take (length l.bodies) l.initial.bodies;
  within : length l.bodies ≤ length l.initial.bodies;
  shows : ShowsFrom l.world (view_class l.class) (is_interface l.class.flags) l.class.methods l.initial.bodies (length l.bodies) (map trees.view_method (reverse l.texts));
}

abbrev pub decreases-loop-body : goal.decreases-loop-body
decreases-loop-body l = length l.bodies
