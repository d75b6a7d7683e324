use Rattle.std.proofs.Common.{◌≡◌, Any, take}
use Rattle.dj_world.specs.Learning.{Learns}
use Rattle.dj_world.proofs.wanted.learn_interfaces.Given as goal

abbrev pub invariant-loop-interface : goal.invariant-loop-interface
invariant-loop-interface l = Learns l.initial.names l.names (λ name. Any (λ other. other ≡ name) (take l.interface-index l.interfaces))
