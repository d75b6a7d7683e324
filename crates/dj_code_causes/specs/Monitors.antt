-- Which instructions enter or leave a monitor (JVMS 6.5, monitorenter, monitorexit).
use Rattle.std.specs.Prelude.{ℕ, Bool, true, false}
use Rattle.dj_instructions.specs.Instructions.{Instruction}
use Rattle.dj_code.specs.MethodCode.{Code}
use Rattle.dj_starts.specs.declared.control.Control.{Control}
use Rattle.dj_starts.specs.declared.control.Control.TheVariants as leaves
use Rattle.dj_starts.specs.Control.{control_of}
use Rattle.dj_code_causes.specs.Places.{IsOne}

-- by how control leaves it
abbrev pub takes_monitor : Control → Bool
takes_monitor leaves.On = false
takes_monitor leaves.OnOrThrown = false
takes_monitor leaves.Branch = false
takes_monitor leaves.Jump = false
takes_monitor leaves.Return = false
takes_monitor leaves.Throw = false
takes_monitor leaves.Enter = true
takes_monitor leaves.Exit = true

-- `monitorenter` or `monitorexit`
abbrev pub is_on_monitor : Instruction → Bool
is_on_monitor instruction = takes_monitor (control_of instruction)

-- such an instruction stands at this offset
abbrev pub HasMonitorAt : Code → ℕ → Type 0
HasMonitorAt code = IsOne is_on_monitor code.instructions
