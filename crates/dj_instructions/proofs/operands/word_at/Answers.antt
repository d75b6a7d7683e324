use Rattle.std.proofs.Common.{ℕ, Some, ap, sym, ◌∙◌}
use Rattle.dj_instructions.specs.declared.form.Form.TheVariants.{Word}
use Rattle.dj_instructions.specs.Instructions.{Goto}
use Rattle.dj_instructions.specs.RawInstructions.{u4}
use Rattle.dj_instructions.specs.Jumps.{target}
use Rattle.dj_instructions.proofs.SwitchReading.{kept}
use Rattle.dj_instructions.proofs.OperandReading.{one_read}
use Rattle.dj_instructions.proofs.operands.word_at.Goals as goal

pub returns : goal.returns
returns c =
    let to = c.target-to.ensures.target ∙ ap (target c.args.pc) (kept c.args.bytes.now c.in_ok-offset.rest.now c.in_ok-offset.offset c.cast_signed.result c.in_ok-offset.ensures.reads c.cast_signed.ensures) in
    record {
      reads = λ pool op is. one_read pool c.args.pc op Word u4 c.in_ok-offset.offset c.args.bytes.now c.in_ok-offset.rest.now (Some (Goto c.target-to.result)) is c.in_ok-offset.ensures.reads (ap (λ (t : ℕ). Some (Goto t)) (sym to));
    }
