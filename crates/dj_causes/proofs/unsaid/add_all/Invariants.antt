use Rattle.std.proofs.Common.{◌≡◌, ◌++◌, take}
use Rattle.dj_causes.proofs.unsaid.add_all.Given as goal

abbrev pub invariant-loop-name : goal.invariant-loop-name
invariant-loop-name l = l.names ≡ l.initial.names ++ take l.name-index l.more
