use Rattle.std.proofs.Common.{take}
use Rattle.dj_write.specs.Written.{AreClasses}
use Rattle.dj_write.proofs.attributes.class_indices.Given as goal

abbrev pub invariant-loop-name : goal.invariant-loop-name
invariant-loop-name l = AreClasses l.index (take l.name-index l.names) l.indices
