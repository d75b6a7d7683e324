use Rattle.std.proofs.Common.{◌≡◌, drop}
use Rattle.dj_instructions.specs.Instructions.{view_instructions}
use Rattle.dj_edges.specs.Edges.{writes_slot}
use Rattle.dj_moves.proofs.this.write_first.Given as goal

abbrev pub invariant-loop-at : goal.invariant-loop-at
invariant-loop-at l = writes_slot 0 (view_instructions (drop l.at-index l.instructions)) ≡ writes_slot 0 (view_instructions l.instructions)
