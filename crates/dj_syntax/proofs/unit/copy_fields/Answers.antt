use Rattle.std.proofs.Common.{arith}
use Rattle.dj_names.proofs.CopyLemmas.{copied_more}
use Rattle.dj_syntax.proofs.unit.copy_fields.Goals as goal

pub loop-field-preserved : goal.loop-field-preserved
loop-field-preserved c =
    copied_more c.args.fields.now c.loop-field.field-index _ _ _ _ (omega arith) c.field-item.is c.loop-field.invariant c.in_ok-copy.ensures.equal c.in_ok-push.ensures.ok
