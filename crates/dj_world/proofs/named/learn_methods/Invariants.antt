use Rattle.std.proofs.Common.{Any, take}
use Rattle.dj_names.specs.Types.{view_descriptor}
use Rattle.dj_world.specs.Named.{NamesClass}
use Rattle.dj_world.specs.Learning.{Learns}
use Rattle.dj_world.proofs.named.learn_methods.Given as goal

abbrev pub invariant-loop-at : goal.invariant-loop-at
invariant-loop-at l = Learns l.initial.names l.names (λ name. Any (λ method. NamesClass (view_descriptor method.descriptor) name) (take l.at l.methods))
