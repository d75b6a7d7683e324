use Rattle.std.proofs.Common.{◌≡◌, map, take, slice_index_or}
use Rattle.dj_values.specs.Values.{Null}
use Rattle.dj_values.specs.Views.{view_values}
use Rattle.dj_operands.specs.Stacks.{stacked}
use Rattle.dj_operands.proofs.shuffles.copies.Given as goal

abbrev pub invariant-loop-place : goal.invariant-loop-place
invariant-loop-place l = view_values l.copies ≡ map (λ place. slice_index_or (stacked l.stack) place Null) (take l.place-index l.places)
