use Rattle.std.proofs.Common.{◌≡◌, map, take, slice_index_or}
use Rattle.dj_names.specs.Types as types
use Rattle.dj_rebuilding.specs.Pending.{Kept, Nothing}
use Rattle.dj_pending.specs.Entries.{view_entry}
use Rattle.dj_pending.specs.Stacks.{stacked}
use Rattle.dj_pending.proofs.moving.copies.Given as goal

abbrev pub invariant-loop-place : goal.invariant-loop-place
invariant-loop-place l = map view_entry l.copies ≡ map (λ place. slice_index_or (stacked l.stack) place (Kept types.Null Nothing)) (take l.place-index l.places)
