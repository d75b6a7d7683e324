use Rattle.std.proofs.Common.{◌≡◌, ◌++◌, drop}
use Rattle.dj_thrown.specs.Throws.{thrown_at}
use Rattle.dj_thrown.proofs.throwing.add_thrown.Given as goal

abbrev pub invariant-loop-class : goal.invariant-loop-class
invariant-loop-class l = l.thrown ++ thrown_at l.place (drop l.class-index l.classes) ≡ l.fn.thrown ++ thrown_at l.place l.classes
