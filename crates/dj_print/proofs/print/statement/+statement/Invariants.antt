use Rattle.std.proofs.Common.{take}
use Rattle.std.specs.List.{flat_map}
use Rattle.dj_syntax.specs.Items.{render}
use Rattle.dj_print.specs.Spelled.{spellings}
use Rattle.dj_print.proofs.ListTexts.{line_items, group_items, catch_items}
use Rattle.dj_print.proofs.print.statement.+statement.Given as goal

abbrev pub invariant-statements-loop-item : goal.invariant-statements-loop-item
invariant-statements-loop-item g l =
    g.O.Out.prints l.initial.out l.out (render (flat_map (line_items (spellings l.unit) l.depth) (take l.item-index l.list)))

abbrev pub invariant-groups-loop-one : goal.invariant-groups-loop-one
invariant-groups-loop-one g l =
    g.O.Out.prints l.initial.out l.out (render (flat_map (group_items (spellings l.unit) l.depth) (take l.one-index l.list)))

abbrev pub invariant-catches-loop-catch : goal.invariant-catches-loop-catch
invariant-catches-loop-catch g l =
    g.O.Out.prints l.initial.out l.out (render (flat_map (catch_items (spellings l.unit) l.depth) (take l.catch-index l.list)))
