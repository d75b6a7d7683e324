use Rattle.std.proofs.Common.{◌≡◌, ◌++◌, flat_map, take}
use Rattle.dj_pool.specs.SharedParts.{u2}
use Rattle.dj_write.proofs.file.put_indices.Given as goal

abbrev pub invariant-loop-index : goal.invariant-loop-index
invariant-loop-index l = l.out.items ≡ l.initial.out.items ++ flat_map u2.spell (take l.index-index l.indices)
