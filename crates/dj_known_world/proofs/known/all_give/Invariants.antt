use Rattle.std.proofs.Common.{◌≡◌, drop}
use Rattle.std.specs.List.{list_all}
use Rattle.dj_known_world.specs.Known.{gives}
use Rattle.dj_known_world.proofs.known.all_give.Given as goal

abbrev pub invariant-loop-method : goal.invariant-loop-method
invariant-loop-method l = list_all gives (drop l.method-index l.methods) ≡ list_all gives l.methods
