use Rattle.std.proofs.Common.{List, ℕ, Option, Bor}
use Rattle.std.specs.Option.{option_map}
use Rattle.dj_instructions.specs.Instructions.{view_instruction}
use Rattle.dj_instructions.specs.declared.instruction.Instruction as declared
use Rattle.dj_instructions.proofs.OpcodeReading.{parts_read}
use Rattle.dj_instructions.proofs.reading.parts_at.Goals as goal

pub returns : goal.returns
returns c =
    record { reads = parts_read c.args.pool.now c.args.pc c.in_ok-opcode.opcode (λ (x : Option declared.Instruction × Bor (List ℕ)). (option_map view_instruction x.0, x.1.now)) c.args.end c.args.bytes.now c.in_ok-opcode.rest.now c.behind_at.result c.in_ok-opcode.ensures.reads c.behind_at.ensures.reads }
