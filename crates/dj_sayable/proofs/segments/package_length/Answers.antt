use Rattle.std.proofs.Common.{◌∙◌, arith}
use Rattle.dj_kinds.proofs.PackageLemmas.{package_to, package_on}
use Rattle.dj_sayable.proofs.segments.package_length.Goals as goal
use Rattle.dj_sayable.proofs.segments.package_length.Goals.{then-unit-eq-SLASH, else-unit-eq-SLASH}

pub loop-at-preserved : goal.loop-at-preserved
loop-at-preserved c =
    elim c.if-unit-eq-SLASH.branch [
      | then-unit-eq-SLASH w ↦ record { unitwise = rw w.length-is (package_to c.args.name.now c.loop-at.at c.loop-at-test.true w.if-unit-eq-SLASH.true); within = rw w.length-is (omega arith) }
      | else-unit-eq-SLASH w ↦
          record {
            unitwise = rw w.length-is (c.loop-at.invariant.unitwise ∙ package_on c.args.name.now c.loop-at.at c.loop-at-test.true w.if-unit-eq-SLASH.false);
            within = rw w.length-is (omega (arith, c.loop-at.invariant.within));
          }
    ]
