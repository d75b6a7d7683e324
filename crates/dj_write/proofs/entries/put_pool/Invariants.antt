use Rattle.std.proofs.Common.{◌≡◌, ◌++◌, flat_map, take}
use Rattle.dj_write.specs.Files.{slot_bytes}
use Rattle.dj_write.proofs.entries.put_pool.Given as goal

abbrev pub invariant-loop-entry : goal.invariant-loop-entry
invariant-loop-entry l = l.out.items ≡ l.initial.out.items ++ flat_map slot_bytes (take l.entry-index l.entries)
