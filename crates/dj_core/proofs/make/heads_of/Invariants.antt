use Rattle.std.proofs.Common.{[], take}
use Rattle.std.specs.Prelude.{flat_map}
use Rattle.dj_core.specs.Rows.{AddsLines, group_lines}
use Rattle.dj_core.proofs.make.heads_of.Given as goal

abbrev pub invariant-loop-group : goal.invariant-loop-group
invariant-loop-group l = AddsLines [] l.heads (flat_map group_lines (take l.group-index l.groups))
