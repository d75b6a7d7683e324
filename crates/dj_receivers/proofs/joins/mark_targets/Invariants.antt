use Rattle.std.proofs.Common.{Bool, List, drop}
use Rattle.dj_instructions.specs.Instructions.{view_instructions}
use Rattle.dj_starts.specs.Marks.{MarksMore}
use Rattle.dj_receivers.specs.Steps.{IsJumpedTo}
use Rattle.dj_receivers.proofs.joins.mark_targets.Given as goal

-- what is marked, and what the rest asks for, is what is asked for
abbrev pub invariant-loop-at : goal.invariant-loop-at
invariant-loop-at l =
    (after : List Bool) → MarksMore l.joins after (IsJumpedTo (view_instructions (drop l.at-index l.instructions))) → MarksMore l.initial.joins after (IsJumpedTo (view_instructions l.instructions))
