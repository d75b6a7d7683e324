use Rattle.std.proofs.Common.{map, take}
use Rattle.dj_core.specs.Rows.{AddsLines, line}
use Rattle.dj_core.proofs.make.push_group.Given as goal

abbrev pub invariant-loop-name : goal.invariant-loop-name
invariant-loop-name l = AddsLines l.initial.heads l.heads (map (line l.fn.group) (take l.name-index l.fn.group.methods.now))
