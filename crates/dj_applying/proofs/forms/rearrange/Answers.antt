use Rattle.std.proofs.Common.{◌≡◌, ◌++◌, ◌∙◌, ap, sym, refl, length, drop}
use Rattle.std.proofs.lemmas.List.{map-append, drop-map}
use Rattle.dj_frames.specs.Frames.{view_tag, view_tags}
use Rattle.dj_effects.specs.Effects.{picked}
use Rattle.dj_applying.proofs.forms.rearrange.Goals as goal

pub returns : goal.returns
returns c =
    let all : view_tags c.push_all.new.stack ≡ view_tags c.as_slice.result.now ++ view_tags c.remove.new.self = ap view_tags c.in_ok-push_all.ensures.ok ∙ map-append view_tag c.as_slice.result.now c.remove.new.self in
    let front : view_tags c.as_slice.result.now ≡ picked c.args.form.now.gives.now (view_tags c.args.stack.now) = ap view_tags c.as_slice.ensures ∙ c.in_ok-tags.ensures.picked in
    let back : view_tags c.remove.new.self ≡ drop (length c.args.form.now.takes.now) (view_tags c.args.stack.now) = ap view_tags c.remove.ensures.rest ∙ sym (drop-map view_tag (length c.args.form.now.takes.now) c.args.stack.now) in
    record { ok = all ∙ rw (front, back) refl }
