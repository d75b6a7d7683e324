use Rattle.std.proofs.Common.{◌≡◌, take}
use Rattle.dj_headers.specs.Table.{digest}
use Rattle.dj_headers.proofs.places.digest.Given as goal

abbrev pub invariant-loop-unit : goal.invariant-loop-unit
invariant-loop-unit l = l.sum ≡ digest (take l.unit-index l.name)
