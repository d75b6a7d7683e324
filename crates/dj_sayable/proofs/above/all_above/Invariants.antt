use Rattle.std.proofs.Common.{◌++◌, ◌-◌, length}
use Rattle.dj_sayable.specs.Gathering.{HasJust, Climbs, mentioned}
use Rattle.dj_sayable.proofs.above.all_above.Given as goal

abbrev pub invariant-loop-at : goal.invariant-loop-at
invariant-loop-at l = record {
  paired : HasJust l.found.known l.found.names;
  climbs : Climbs l.headers l.classes l.at l.found.names;
}

abbrev pub decreases-loop-at : goal.decreases-loop-at
decreases-loop-at l = length (l.classes ++ mentioned l.headers) - l.at
