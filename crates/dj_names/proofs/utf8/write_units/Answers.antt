use Rattle.std.proofs.Common.{refl, arith}
use Rattle.dj_names.proofs.Utf8Lemmas.{spelled_more}
use Rattle.dj_names.proofs.utf8.write_units.Goals as goal

pub loop-unit-preserved : goal.loop-unit-preserved
loop-unit-preserved c =
    spelled_more c.as_slice-unit-items.result.now c.loop-unit.unit-index _ _ _ (omega arith) refl c.loop-unit.invariant c.in_ok-push_unit.ensures.pushed
