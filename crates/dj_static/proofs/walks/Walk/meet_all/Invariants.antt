use Rattle.std.proofs.Common.{◌≡◌, drop}
use Rattle.dj_static.specs.Walks.{meet_all}
use Rattle.dj_static.proofs.walks.Walk.meet_all.Given as goal

abbrev pub invariant-loop-class : goal.invariant-loop-class
invariant-loop-class l = meet_all l.headers (drop l.class-index l.classes) l.self ≡ meet_all l.headers l.classes l.fn.self
