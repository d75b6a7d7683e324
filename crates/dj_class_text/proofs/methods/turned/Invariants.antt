use Rattle.std.proofs.Common.{◌≡◌, ◌++◌, length}
use Rattle.std.specs.Prelude.{reverse}
use Rattle.dj_class_text.proofs.methods.turned.Given as goal

abbrev pub invariant-loop-text : goal.invariant-loop-text
invariant-loop-text l = l.turned ++ reverse l.texts ≡ reverse l.initial.texts

abbrev pub decreases-loop-text : goal.decreases-loop-text
decreases-loop-text l = length l.texts
