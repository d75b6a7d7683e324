use Rattle.std.proofs.Common.{◌≡◌, List, map, reverse, ap, ◌∙◌}
use Rattle.dj_frames.specs.Frames.{Tag, view_tags}
use Rattle.dj_effects.specs.Operands.{moved_words, form_of as first_form}
use Rattle.dj_applying.specs.Done.{view_form}
use Rattle.dj_receivers.proofs.Turned.{viewed_turned}
use Rattle.dj_receivers.proofs.passing.form_at.Goals as goal

pub returns : goal.returns
returns c =
    let same : view_tags c.in_ok-entries.entries ≡ reverse (view_tags c.args.stack.now) = ap view_tags c.in_ok-entries.ensures.same ∙ viewed_turned c.args.stack.now in
    record { first = c.form_of.ensures.first ∙ ap (λ (tags : List Tag). first_form (map view_form c.args.forms.now) (map moved_words tags)) same }
