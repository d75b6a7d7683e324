use Rattle.std.specs.Option.{option_map}
use Rattle.dj_instructions.specs.declared.form.Form.TheVariants.{Sizes}
use Rattle.dj_instructions.specs.Instructions.{view_instruction}
use Rattle.dj_instructions.specs.RawInstructions.{u1, u2}
use Rattle.dj_instructions.proofs.OperandReading.{two_read}
use Rattle.dj_instructions.proofs.operands.sizes_at.Goals as goal

pub returns : goal.returns
returns c =
    record { reads = λ pc op is. two_read c.args.pool.now pc op Sizes u2 u1 c.in_ok-index.index c.in_ok-sizes.sizes c.args.bytes.now c.in_ok-index.rest.now c.in_ok-sizes.rest.now (option_map view_instruction c.in_ok-found.found) is c.in_ok-index.ensures.reads c.in_ok-sizes.ensures.reads c.in_ok-found.ensures.meant }
