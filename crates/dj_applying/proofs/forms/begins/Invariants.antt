use Rattle.std.proofs.Common.{◌≡◌, map, drop}
use Rattle.dj_frames.specs.Frames.{view_tags}
use Rattle.dj_effects.specs.Operands.{moved_words, begins}
use Rattle.dj_applying.proofs.forms.begins.Given as goal

abbrev pub invariant-loop-depth : goal.invariant-loop-depth
invariant-loop-depth l = begins (drop l.depth l.takes) (drop l.depth (map moved_words (view_tags l.stack))) ≡ begins l.takes (map moved_words (view_tags l.stack))
