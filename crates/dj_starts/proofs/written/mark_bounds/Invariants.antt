use Rattle.std.proofs.Common.{Bool, List, drop}
use Rattle.dj_starts.specs.Births.{IsBound}
use Rattle.dj_starts.specs.Marks.{MarksMore}
use Rattle.dj_starts.proofs.written.mark_bounds.Given as goal

-- what is marked, and what the rest asks for, is what is asked for
abbrev pub invariant-loop-handler : goal.invariant-loop-handler
invariant-loop-handler l = (after : List Bool) → MarksMore l.marks after (IsBound (drop l.handler-index l.handlers)) → MarksMore l.initial.marks after (IsBound l.handlers)
