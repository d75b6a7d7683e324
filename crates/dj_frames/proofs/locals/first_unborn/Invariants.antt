use Rattle.std.proofs.Common.{◌≡◌, take, None}
use Rattle.std.specs.List.{position}
use Rattle.dj_frames.specs.Frames.{view_tags, is_unborn_this}
use Rattle.dj_frames.proofs.locals.first_unborn.Given as goal

abbrev pub invariant-loop-place : goal.invariant-loop-place
invariant-loop-place l = position is_unborn_this (view_tags (take l.place l.values)) ≡ None
