use Rattle.std.proofs.Common.{◌≡◌, map, take}
use Rattle.dj_code.specs.Targets.{handler_of}
use Rattle.dj_code.proofs.ranges.handlers_of.Given as goal

abbrev pub invariant-loop-handler : goal.invariant-loop-handler
invariant-loop-handler l = l.found ≡ map (handler_of l.pool) (take l.handler-index l.handlers)
