use Rattle.std.proofs.Common.{ℕ, ◌<◌, length, drop, map, slice_index_or}
use Rattle.dj_instructions.specs.Instructions.{view_instructions}
use Rattle.dj_frames.specs.Frames.{view_frame}
use Rattle.dj_starts.specs.declared.calls.Met.TheVariants.{No}
use Rattle.dj_starts.specs.Births.{Meets}
use Rattle.dj_starts.specs.Marks.{IsRoom}
use Rattle.dj_starts.proofs.Constructing.{Extends}
use Rattle.dj_starts.proofs.calls.calls_met.Given as goal

abbrev pub invariant-loop-place : goal.invariant-loop-place
invariant-loop-place l = record {
  room : IsRoom (view_instructions l.instructions) (length l.calls);
  tells : (start : ℕ) → start < length l.calls → Extends (slice_index_or l.calls start No) (view_instructions (drop l.place l.instructions)) (Meets (view_instructions (drop l.place l.instructions)) (map view_frame (drop l.place l.frames)) start) (Meets (view_instructions l.instructions) (map view_frame l.frames) start);
}
