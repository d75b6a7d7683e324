use Rattle.std.specs.Option.{option_map}
use Rattle.dj_instructions.specs.declared.form.Form.TheVariants.{Byte}
use Rattle.dj_instructions.specs.Instructions.{view_instruction}
use Rattle.dj_instructions.specs.RawInstructions.{u1}
use Rattle.dj_instructions.proofs.OperandReading.{one_read}
use Rattle.dj_instructions.proofs.operands.byte_at.Goals as goal

pub returns : goal.returns
returns c = record { reads = λ pc. one_read c.args.pool.now pc c.args.opcode Byte u1 c.in_ok-x.x c.args.bytes.now c.in_ok-x.rest.now (option_map view_instruction c.in_ok-found.found) c.requires.form c.in_ok-x.ensures.reads c.in_ok-found.ensures.meant }
