use Rattle.std.proofs.Common.{Any, take}
use Rattle.dj_world.specs.Named.{IsInEntry}
use Rattle.dj_world.specs.Learning.{Learns}
use Rattle.dj_world.proofs.named.learn_pool.Given as goal

abbrev pub invariant-loop-entry : goal.invariant-loop-entry
invariant-loop-entry l = Learns l.initial.names l.names (λ name. Any (λ entry. IsInEntry l.fn.pool entry name) (take l.entry-index l.entry-items))
