use Rattle.std.proofs.Common.{◌≡◌, take}
use Rattle.dj_class.proofs.copies.copy_methods.Given as goal

abbrev pub invariant-loop-method : goal.invariant-loop-method
invariant-loop-method l = l.copy ≡ take l.method-index l.methods
