use Rattle.std.proofs.Common.{◌≡◌, drop}
use Rattle.dj_bytecode.specs.Shuffles.{has_words}
use Rattle.dj_operands.specs.Stacks.{stacked}
use Rattle.dj_operands.proofs.shuffles.has_words.Given as goal

abbrev pub invariant-loop-place : goal.invariant-loop-place
invariant-loop-place l = has_words (drop l.place l.takes) (drop l.place (stacked l.stack)) ≡ has_words l.takes (stacked l.stack)
