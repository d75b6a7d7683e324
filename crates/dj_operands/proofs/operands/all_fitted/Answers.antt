use Rattle.std.proofs.Common.{arith, sym, add-one}
use Rattle.dj_names.specs.Types.{view_types}
use Rattle.dj_values.specs.Views.{view_values}
use Rattle.dj_operands.proofs.Fitting.{fits_none, too_few, no_fit, one_more, all_fit, too_many}
use Rattle.dj_operands.proofs.operands.all_fitted.Goals as goal

pub loop-at-init : goal.loop-at-init
loop-at-init c = rw c.new-kept.ensures (fits_none (view_types c.args.kinds.now) (view_values c.args.values.now))

pub loop-at-preserved : goal.loop-at-preserved
loop-at-preserved c =
    rw add-one (one_more c.args.kinds.now c.args.values.now _ _ c.loop-at.at _ _ _ c.loop-at-test.true (omega arith) c.index-kinds-at.is c.index-values-at.is (rw c.in-Some.is at c.in_ok-value.ensures.fitted) c.in_ok-push.ensures.ok c.loop-at.invariant)

pub returns-then-at-values : goal.returns-then-at-values
returns-then-at-values c = record { fitted = sym (too_few c.args.kinds.now c.args.values.now _ c.loop-at.at c.loop-at-test.true (omega arith) c.loop-at.invariant) }

pub returns-in_default : goal.returns-in_default
returns-in_default c =
    record { fitted = sym (no_fit c.args.kinds.now c.args.values.now _ c.loop-at.at _ _ c.loop-at-test.true (omega arith) c.index-kinds-at.is c.index-values-at.is (sym (rw c.in_default.is at c.in_ok-value.ensures.fitted)) c.loop-at.invariant) }

pub returns-then-values-kinds : goal.returns-then-values-kinds
returns-then-values-kinds c = record { fitted = sym (all_fit c.args.kinds.now c.args.values.now _ c.loop-at.at (omega arith) (omega arith) c.loop-at.invariant) }

pub returns-else-values-kinds : goal.returns-else-values-kinds
returns-else-values-kinds c = record { fitted = sym (too_many c.args.kinds.now c.args.values.now _ c.loop-at.at (omega arith) (omega arith) c.loop-at.invariant) }
