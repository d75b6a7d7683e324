use Rattle.std.proofs.Common.{◌≡◌, drop}
use Rattle.dj_receivers.proofs.Joining.{any_stores}
use Rattle.dj_receivers.proofs.joins.any_stores.Given as goal

abbrev pub invariant-loop-at : goal.invariant-loop-at
invariant-loop-at l = any_stores (drop l.at-index l.instructions) ≡ any_stores l.instructions
