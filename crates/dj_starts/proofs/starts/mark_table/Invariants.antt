use Rattle.std.proofs.Common.{Bool, List, drop}
use Rattle.dj_starts.specs.Marks.{MarksMore}
use Rattle.dj_starts.specs.Starts.{TableAsks}
use Rattle.dj_starts.proofs.starts.mark_table.Given as goal

-- what is marked, and what the rest asks for, is what is asked for
abbrev pub invariant-loop-handler : goal.invariant-loop-handler
invariant-loop-handler l =
    (after : List Bool) → MarksMore l.begins after (TableAsks (drop l.handler-index l.handlers)) → MarksMore l.initial.begins after (TableAsks l.handlers)
