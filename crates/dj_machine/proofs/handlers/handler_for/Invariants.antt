use Rattle.std.proofs.Common.{◌≡◌, drop}
use Rattle.dj_values.specs.Views.{view_reference}
use Rattle.dj_bytecode.specs.Machine.{handler_for}
use Rattle.dj_machine.proofs.handlers.handler_for.Given as goal

abbrev pub invariant-loop-handler : goal.invariant-loop-handler
invariant-loop-handler l =
    handler_for l.headers l.pc (view_reference l.reference) (drop l.handler-index l.handlers) ≡ handler_for l.headers l.pc (view_reference l.reference) l.handlers
