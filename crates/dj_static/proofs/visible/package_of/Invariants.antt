use Rattle.std.proofs.Common.{◌≡◌, ◌≤◌, take}
use Rattle.dj_kinds.specs.Access.{package_of}
use Rattle.dj_static.proofs.visible.package_of.Given as goal

abbrev pub invariant-loop-at : goal.invariant-loop-at
invariant-loop-at l = record { unitwise : take l.length l.name ≡ package_of (take l.at l.name); within : l.length ≤ l.at }
