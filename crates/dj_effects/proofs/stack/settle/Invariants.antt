use Rattle.std.proofs.Common.{◌≡◌, ◌++◌, take}
use Rattle.dj_effects.specs.Stacked.{tags_of}
use Rattle.dj_effects.proofs.stack.settle.Given as goal

abbrev pub invariant-loop-entry : goal.invariant-loop-entry
invariant-loop-entry l = l.below ≡ l.initial.below ++ tags_of (take l.entry-index l.top)
