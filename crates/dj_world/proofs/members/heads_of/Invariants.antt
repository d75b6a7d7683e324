use Rattle.std.proofs.Common.{◌≡◌, map, take}
use Rattle.dj_world.specs.Worlds.{head_of}
use Rattle.dj_world.proofs.members.heads_of.Given as goal

abbrev pub invariant-loop-method : goal.invariant-loop-method
invariant-loop-method l = l.heads ≡ map head_of (take l.method-index l.methods)
