-- What the functions that tell the meaning of an instruction promise each other.
use Rattle.std.specs.Prelude.{List, Option, option_map, Result, Ok, Err, ⊤}
use Rattle.std.specs.declared.alloc.AllocError.{AllocError}
use Rattle.dj_pool.specs.declared.entry.Entry.{Entry}
use Rattle.dj_instructions.specs.declared.instruction.Instruction as declared
use Rattle.dj_instructions.specs.Instructions.{view_instruction}
use Rattle.dj_instructions.specs.PoolNames.{Finds}
use Rattle.dj_instructions.specs.PoolMeanings.{Meaning, IsMeant}

-- the answer is what is meant, None where nothing is, or memory ran out
abbrev pub IsAnswer : List Entry → Meaning → Result (Option declared.Instruction) AllocError → Type 0
IsAnswer pool meaning (Ok found) = Finds (IsMeant pool meaning) (option_map view_instruction found)
IsAnswer pool meaning (Err error) = ⊤
