use Rattle.std.proofs.Common.{arith}
use Rattle.dj_core.specs.CoreTable.{core_classes}
use Rattle.dj_world.proofs.FillLemmas.{Fills-more, filled_few}
use Rattle.dj_world.proofs.world.World.fill.Goals as goal

pub fill_one-requires-clause-room : goal.fill_one-requires-clause-room
fill_one-requires-clause-room c = omega (arith, c.requires.room, c.loop-at-test.true, filled_few core_classes c.loop-at.at c.args.self.now c.loop-at.self c.loop-at.invariant)

pub loop-at-preserved : goal.loop-at-preserved
loop-at-preserved c = Fills-more core_classes c.loop-at.at c.args.self.now c.loop-at.self c.fill_one.new.self c.loop-at.invariant c.in_ok-fill_one.ensures.taken
