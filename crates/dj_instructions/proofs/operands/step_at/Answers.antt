use Rattle.std.proofs.Common.{Some, refl}
use Rattle.std.specs.Int.{w16, cast_signed, cast_unsigned}
use Rattle.dj_instructions.specs.declared.form.Form.TheVariants.{Step}
use Rattle.dj_instructions.specs.Instructions.{Iinc}
use Rattle.dj_instructions.specs.RawInstructions.{u1}
use Rattle.dj_instructions.proofs.OperandReading.{two_read, step_by}
use Rattle.dj_instructions.proofs.operands.step_at.Goals as goal

pub returns : goal.returns
returns c =
    let by = step_by c.in_ok-slot.rest.now c.in_ok-by.rest.now c.in_ok-by.by c.cast_signed.result c.from-2.result c.in_ok-by.ensures.reads c.cast_signed.ensures c.from-2.ensures in
    record {
      reads = λ pool pc op is. two_read pool pc op Step u1 u1 c.in_ok-slot.slot c.in_ok-by.by c.args.bytes.now c.in_ok-slot.rest.now c.in_ok-by.rest.now (Some (Iinc c.from.result (cast_signed w16 (cast_unsigned w16 c.from-2.result)))) is c.in_ok-slot.ensures.reads c.in_ok-by.ensures.reads
          (rw (c.from.ensures, by) refl);
    }
