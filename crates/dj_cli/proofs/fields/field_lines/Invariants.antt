use Rattle.std.proofs.Common.{take}
use Rattle.dj_class.specs.Views.{view_class}
use Rattle.dj_cli.specs.Lines.{lines_bytes}
use Rattle.dj_cli.specs.Methods.{HaveLines}
use Rattle.dj_cli.proofs.fields.field_lines.Given as goal

abbrev pub invariant-loop-at : goal.invariant-loop-at
invariant-loop-at l = HaveLines l.world (view_class l.class) (take l.at (view_class l.class).fields) (lines_bytes (view_class l.class).this_class l.lines.items)
