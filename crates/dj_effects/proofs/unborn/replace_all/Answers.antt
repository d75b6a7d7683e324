use Rattle.std.proofs.Common.{◌≡◌, ◌∙◌, length, sym, ap, arith}
use Rattle.std.specs.Prelude.{slice_set}
use Rattle.std.proofs.lemmas.List.{length-map}
use Rattle.dj_frames.specs.Frames.{view_tag, view_tags, is_unborn}
use Rattle.dj_effects.proofs.Lists.{set_map}
use Rattle.dj_effects.proofs.Replacing.{replaced_none, replaced_more, replaced_all}
use Rattle.dj_effects.proofs.unborn.replace_all.Goals as goal

pub loop-start-init : goal.loop-start-init
loop-start-init c = replaced_none (is_unborn c.args.unborn) (view_tag c.args.now.now) (view_tags c.args.slots.now)

pub loop-start-preserved : goal.loop-start-preserved
loop-start-preserved c =
    let test = is_unborn c.args.unborn in
    let put : c.set.new.self ≡ slice_set c.loop-start.slots c.in-Some.slot c.args.now.now = rw (← c.in_ok-copy-in-Some.ensures.equal) c.in_ok-set-in-Some.ensures.ok in
    replaced_more test (view_tag c.args.now.now) (view_tags c.args.slots.now) (view_tags c.loop-start.slots) c.loop-start.start c.loop-start.invariant (view_tags c.set.new.self) (length c.loop-start.slots) c.in-Some.slot (sym (length-map c.loop-start.slots view_tag)) c.in-Some.ensures.next
    (ap view_tags put ∙ sym (set_map view_tag c.loop-start.slots c.in-Some.slot c.args.now.now))

pub returns-in-None : goal.returns-in-None
returns-in-None c =
    record { ok = replaced_all (is_unborn c.args.unborn) (view_tag c.args.now.now) (view_tags c.args.slots.now) (view_tags c.loop-start.slots) c.loop-start.start c.loop-start.invariant (length c.loop-start.slots) (sym (length-map c.loop-start.slots view_tag)) (λ s ge lt. c.in-None.ensures.next s ge lt) }

pub returns : goal.returns
returns c =
    let r = c.loop-start.invariant in
    let long = r.long in
    let now = length-map c.loop-start.slots view_tag in
    let before = length-map c.args.slots.now view_tag in
    record { ok = replaced_all (is_unborn c.args.unborn) (view_tag c.args.now.now) (view_tags c.args.slots.now) (view_tags c.loop-start.slots) c.loop-start.start r (length c.loop-start.slots) (sym now) (λ s ge lt. absurd (omega arith)) }
