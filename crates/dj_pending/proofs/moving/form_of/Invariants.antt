use Rattle.std.proofs.Common.{◌≡◌, map, drop}
use Rattle.dj_pending.specs.Stacks.{stacked}
use Rattle.dj_pending.specs.Forms.{view_form, form_of}
use Rattle.dj_pending.proofs.moving.form_of.Given as goal

abbrev pub invariant-loop-form : goal.invariant-loop-form
invariant-loop-form l = form_of (drop l.form-index (map view_form l.forms)) (stacked l.stack) ≡ form_of (map view_form l.forms) (stacked l.stack)
