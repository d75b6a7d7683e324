use Rattle.std.proofs.Common.{◌≡◌, ◌++◌, drop}
use Rattle.dj_values.specs.Views.{view_values}
use Rattle.dj_bytecode.specs.Machine.{slots_of}
use Rattle.dj_machine.specs.Runs.{view_slots}
use Rattle.dj_machine.proofs.locals.push_arguments.Given as goal

abbrev pub invariant-loop-argument : goal.invariant-loop-argument
invariant-loop-argument l = view_slots l.slots ++ slots_of (drop l.argument-index (view_values l.arguments)) ≡ view_slots l.initial.slots ++ slots_of (view_values l.arguments)
