use Rattle.std.proofs.Common.{◌≡◌, drop}
use Rattle.dj_known_world.specs.Known.{objects_give}
use Rattle.dj_known_world.proofs.known.objects_give.Given as goal

abbrev pub invariant-loop-at : goal.invariant-loop-at
invariant-loop-at l = objects_give (drop l.at l.headers) (drop l.at l.classes) ≡ objects_give l.headers l.classes
