use Rattle.std.proofs.Common.{◌≡◌, Some, Any, take}
use Rattle.dj_sayable.specs.Gathering.{Gains}
use Rattle.dj_code_causes.proofs.names.add_handlers.Given as goal

abbrev pub invariant-loop-handler : goal.invariant-loop-handler
invariant-loop-handler l = Gains l.initial.names l.names (λ name. Any (λ handler. handler.class ≡ Some name) (take l.handler-index l.handlers))
