use Rattle.std.proofs.Common.{◌≡◌, ◌++◌, map, take}
use Rattle.dj_starts.proofs.ways.push_cases.Given as goal

abbrev pub invariant-loop-case : goal.invariant-loop-case
invariant-loop-case l = l.targets ≡ l.initial.targets ++ map (λ x. x.1) (take l.case-index l.cases)
