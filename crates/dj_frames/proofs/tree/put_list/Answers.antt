use Rattle.std.proofs.Common.{◌≡◌, ℕ, ap, ◌∙◌, arith}
use Rattle.dj_frames.specs.SlotTree.{listed, over, first_tags}
use Rattle.dj_frames.proofs.SlotTags.{first_more}
use Rattle.dj_frames.proofs.tree.put_list.Goals as goal

pub loop-slot-preserved : goal.loop-slot-preserved
loop-slot-preserved c =
    first_more c.loop-slot.slot (over c.args.start c.args.tags.now (listed c.args.list.now c.args.rest.now)) c.loop-slot.made c.push.new.self c.in_ok-copy.field-0 c.loop-slot.invariant c.in_ok-push.ensures.ok (c.in_ok-copy.ensures.equal ∙ c.over.ensures.tag)

pub returns : goal.returns
returns c =
    let e : c.loop-slot.slot ≡ c.args.len = omega arith in
    record { put = c.loop-slot.invariant ∙ ap (λ (n : ℕ). first_tags n (over c.args.start c.args.tags.now (listed c.args.list.now c.args.rest.now))) e }
