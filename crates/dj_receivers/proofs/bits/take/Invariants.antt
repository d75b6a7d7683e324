use Rattle.std.proofs.Common.{◌≡◌, drop, reverse}
use Rattle.dj_receivers.proofs.bits.take.Given as goal

abbrev pub invariant-loop : goal.invariant-loop
invariant-loop l = reverse l.marks ≡ drop l.counter (reverse l.fn.marks)
