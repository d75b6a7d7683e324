use Rattle.std.proofs.Common.{◌∙◌, arith}
use Rattle.dj_kinds.proofs.PackageLemmas.{package_to, package_on}
use Rattle.dj_static.proofs.visible.package_of.Goals as goal
use Rattle.dj_static.proofs.visible.package_of.Goals.{then-unit-eq47, else-unit-eq47}

pub loop-at-preserved : goal.loop-at-preserved
loop-at-preserved c =
    elim c.if-unit-eq47.branch [
      | then-unit-eq47 w ↦ record { unitwise = rw w.length-is (package_to c.args.name.now c.loop-at.at c.loop-at-test.true w.if-unit-eq47.true); within = rw w.length-is (omega arith) }
      | else-unit-eq47 w ↦
          record {
            unitwise = rw w.length-is (c.loop-at.invariant.unitwise ∙ package_on c.args.name.now c.loop-at.at c.loop-at-test.true w.if-unit-eq47.false);
            within = rw w.length-is (omega (arith, c.loop-at.invariant.within));
          }
    ]
