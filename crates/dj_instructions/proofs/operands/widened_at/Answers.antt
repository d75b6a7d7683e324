use Rattle.std.proofs.Common.{ne_eqb}
use Rattle.std.specs.Option.{option_map}
use Rattle.dj_instructions.specs.Instructions.{view_instruction}
use Rattle.dj_instructions.proofs.OperandReading.{wide_step, wide_load}
use Rattle.dj_instructions.proofs.operands.widened_at.Goals as goal

pub returns-then-opcode : goal.returns-then-opcode
returns-then-opcode c =
    record { reads = wide_step c.args.bytes.now c.in_ok-opcode.rest.now c.in_ok-slot.rest.now c.in_ok-by.rest.now c.in_ok-opcode.opcode c.in_ok-slot.slot c.in_ok-by.by c.cast_signed.result c.in_ok-opcode.ensures.reads c.in_ok-slot.ensures.reads c.if-opcode.true c.in_ok-by.ensures.reads c.cast_signed.ensures }

pub returns : goal.returns
returns c =
    record { reads = wide_load c.args.bytes.now c.in_ok-opcode.rest.now c.in_ok-slot.rest.now c.in_ok-opcode.opcode c.in_ok-slot.slot (option_map view_instruction c.widened_load.result) c.in_ok-opcode.ensures.reads c.in_ok-slot.ensures.reads (ne_eqb c.in_ok-opcode.opcode 132 c.if-opcode.false) c.widened_load.ensures.load }
