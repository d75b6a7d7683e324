use Rattle.std.proofs.Common.{◌≡◌, length}
use Rattle.dj_meaning.specs.Runs.{with_store}
use Rattle.dj_objects.specs.Runs.{run_state}
use Rattle.dj_source.specs.Keeping.{store_back}
use Rattle.dj_source.proofs.scopes.put_values.Given as goal

abbrev pub decreases-loop-one : goal.decreases-loop-one
decreases-loop-one l = length l.left

abbrev pub invariant-loop-one : goal.invariant-loop-one
invariant-loop-one l = with_store (store_back l.left) (run_state l.run) ≡ with_store (store_back l.fn.kept) (run_state l.initial.run)
