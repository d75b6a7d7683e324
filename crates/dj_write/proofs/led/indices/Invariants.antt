use Rattle.std.specs.BTreeMap as tree
use Rattle.dj_write.specs.Found.{Finds}
use Rattle.dj_write.proofs.led.indices.Given as goal

abbrev pub invariant-loop-index : goal.invariant-loop-index
invariant-loop-index g l = Finds (g.K.Led.led l.pool) l.index (tree.get g.K.Ord.cmp l.indices)
