use Rattle.std.specs.Option.{option_map}
use Rattle.dj_instructions.specs.declared.form.Form.TheVariants.{Counted}
use Rattle.dj_instructions.specs.Instructions.{view_instruction}
use Rattle.dj_instructions.specs.RawInstructions.{u2}
use Rattle.dj_instructions.proofs.OperandReading.{two_read}
use Rattle.dj_instructions.proofs.operands.counted_at.Goals as goal

pub returns : goal.returns
returns c =
    record { reads = λ pc. two_read c.args.pool.now pc c.args.opcode Counted u2 u2 c.in_ok-index.index c.in_ok-_count._count c.args.bytes.now c.in_ok-index.rest.now c.in_ok-_count.rest.now (option_map view_instruction c.in_ok-found.found) c.requires.form c.in_ok-index.ensures.reads c.in_ok-_count.ensures.reads c.in_ok-found.ensures.meant }
