use Rattle.std.proofs.Common.{take}
use Rattle.dj_core.specs.CoreTable.{core_classes}
use Rattle.dj_world.specs.Filling.{Fills}
use Rattle.dj_world.proofs.world.World.fill.Given as goal

abbrev pub invariant-loop-at : goal.invariant-loop-at
invariant-loop-at l = Fills l.initial.self (take l.at core_classes) l.self
