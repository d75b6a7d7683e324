-- What the code asks of an instruction.
use Rattle.std.specs.Prelude.{Bool}
use Rattle.dj_instructions.specs.Instructions.{Instruction}
use Rattle.dj_code_causes.specs.declared.instructions.Asked.{Asked}
use Rattle.dj_code_causes.specs.declared.instructions.Asked.TheVariants as asked
use Rattle.dj_code_causes.specs.Floats.{works_on_float}
use Rattle.dj_code_causes.specs.Dynamics.{is_dynamic}
use Rattle.dj_code_causes.specs.Monitors.{is_on_monitor}

-- the test
abbrev pub test_of : Asked → Instruction → Bool
test_of asked.Float = works_on_float
test_of asked.Dynamic = is_dynamic
test_of asked.Monitor = is_on_monitor
