use Rattle.std.proofs.Common.{◌≡◌, drop}
use Rattle.std.specs.Option.{option_copied}
use Rattle.dj_thrown.specs.Throws as spec
use Rattle.dj_thrown.proofs.throwing.held_in.Given as goal

abbrev pub invariant-loop-one : goal.invariant-loop-one
invariant-loop-one l = spec.later (option_copied l.found) (spec.held_in (drop l.one-index l.held) l.variable) ≡ spec.held_in l.held l.variable
