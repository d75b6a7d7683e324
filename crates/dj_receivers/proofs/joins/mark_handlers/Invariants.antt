use Rattle.std.proofs.Common.{Bool, List, drop}
use Rattle.dj_starts.specs.Marks.{MarksMore}
use Rattle.dj_receivers.specs.Steps.{IsHandlerOf}
use Rattle.dj_receivers.proofs.joins.mark_handlers.Given as goal

-- what is marked, and what the rest asks for, is what is asked for
abbrev pub invariant-loop-handler : goal.invariant-loop-handler
invariant-loop-handler l = (after : List Bool) → MarksMore l.joins after (IsHandlerOf (drop l.handler-index l.handlers)) → MarksMore l.initial.joins after (IsHandlerOf l.handlers)
