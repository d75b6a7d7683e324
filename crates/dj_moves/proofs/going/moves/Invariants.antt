use Rattle.std.proofs.Common.{◌≡◌, ◌++◌, drop}
use Rattle.dj_code_variables.specs.Views.{view_vars}
use Rattle.dj_moves.specs.Moves.{wanted_by, moves_of}
use Rattle.dj_moves.proofs.going.moves.Given as goal

abbrev pub invariant-loop-place : goal.invariant-loop-place
invariant-loop-place l = l.moves ++ moves_of (wanted_by l.keeps (view_vars l.vars) l.block) (drop l.place l.slots) l.place ≡ moves_of (wanted_by l.keeps (view_vars l.vars) l.block) l.slots 0
