use Rattle.std.proofs.Common.{Bool, List, drop}
use Rattle.dj_instructions.specs.Instructions.{view_instructions}
use Rattle.dj_starts.specs.Marks.{MarksMore}
use Rattle.dj_starts.specs.Walking.{IsNewIn}
use Rattle.dj_starts.proofs.birth.mark_news.Given as goal

-- what is marked, and what the rest asks for, is what is asked for
abbrev pub invariant-loop-at : goal.invariant-loop-at
invariant-loop-at l = (after : List Bool) → MarksMore l.marks after (IsNewIn (view_instructions (drop l.at-index l.instructions))) → MarksMore l.initial.marks after (IsNewIn (view_instructions l.instructions))
