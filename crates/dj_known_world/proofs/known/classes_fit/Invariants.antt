use Rattle.std.proofs.Common.{◌≡◌, drop}
use Rattle.std.specs.List.{list_all}
use Rattle.dj_known_world.specs.Known.{class_fits}
use Rattle.dj_known_world.proofs.known.classes_fit.Given as goal

abbrev pub invariant-loop-class : goal.invariant-loop-class
invariant-loop-class l = list_all class_fits (drop l.class-index l.classes) ≡ list_all class_fits l.classes
