use Rattle.std.proofs.Common.{◌≡◌, map, drop}
use Rattle.dj_frames.specs.Frames.{view_tags}
use Rattle.dj_effects.specs.Operands.{moved_words, form_of}
use Rattle.dj_applying.specs.Done.{view_form}
use Rattle.dj_applying.proofs.forms.form_of.Given as goal

abbrev pub invariant-loop-form : goal.invariant-loop-form
invariant-loop-form l = form_of (drop l.form-index (map view_form l.forms)) (map moved_words (view_tags l.stack)) ≡ form_of (map view_form l.forms) (map moved_words (view_tags l.stack))
