use Rattle.std.proofs.Common.{take}
use Rattle.std.specs.List.{flat_map}
use Rattle.dj_syntax.specs.Items.{render}
use Rattle.dj_print.specs.Spelled.{spellings}
use Rattle.dj_print.proofs.ListTexts.{later_class}
use Rattle.dj_print.proofs.print.names.more_classes.Given as goal

abbrev pub invariant-loop-class : goal.invariant-loop-class
invariant-loop-class g l =
    g.O.Out.prints l.initial.out l.out (render (flat_map (later_class (spellings l.unit)) (take l.class-index l.classes)))
