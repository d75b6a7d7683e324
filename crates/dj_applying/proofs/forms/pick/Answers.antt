use Rattle.std.proofs.Common.{◌≡◌, ◌++◌, ◌∷◌, [], ◌∙◌, ap, sym}
use Rattle.std.proofs.lemmas.List.{map-append, append-nil}
use Rattle.dj_frames.specs.Frames.{view_tag, view_tags}
use Rattle.dj_applying.proofs.Moving.{tag_there, tag_none}
use Rattle.dj_applying.proofs.forms.pick.Goals as goal

pub returns-in_ok-push-in-Some : goal.returns-in_ok-push-in-Some
returns-in_ok-push-in-Some c =
    let there = tag_there c.args.stack.now c.args.place c.in-Some.tag.now c.in-Some.ensures.entry in
    let pushed : c.push.new.self ≡ c.args.tags.now ++ c.in-Some.tag.now ∷ [] = rw (← c.in_ok-copy-in-Some.ensures.equal) c.in_ok-push-in-Some.ensures.ok in
    record { ok = ap view_tags pushed ∙ map-append view_tag c.args.tags.now (c.in-Some.tag.now ∷ []) ∙ ap (λ l. view_tags c.args.tags.now ++ l) (sym there) }

pub returns-in-None : goal.returns-in-None
returns-in-None c =
    let none = tag_none c.args.stack.now c.args.place c.in-None.ensures.entry in
    record { ok = sym (append-nil (view_tags c.args.tags.now)) ∙ ap (λ l. view_tags c.args.tags.now ++ l) (sym none) }
