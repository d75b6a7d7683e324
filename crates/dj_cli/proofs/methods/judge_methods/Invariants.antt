use Rattle.std.proofs.Common.{length, map, take}
use Rattle.std.specs.Prelude.{option_map}
use Rattle.dj_class.specs.Views.{view_class}
use Rattle.dj_syntax.specs.Trees.{view_body}
use Rattle.dj_straight.specs.DeclaredMethods.{Holds}
use Rattle.dj_cli.specs.Lines.{lines_bytes}
use Rattle.dj_cli.specs.Methods.{AreJudged}
use Rattle.dj_cli.proofs.methods.judge_methods.Given as goal

abbrev pub invariant-loop-at : goal.invariant-loop-at
invariant-loop-at l = record {
  holds : Holds l.declared (take l.at (view_class l.class).methods);
  judged : AreJudged l.basis.world.now (view_class l.class) (take l.at (view_class l.class).methods) (map (option_map view_body) l.bodies) (lines_bytes (view_class l.class).this_class l.lines.items) (length l.lines.items);
}
