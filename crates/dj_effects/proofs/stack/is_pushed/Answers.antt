use Rattle.std.proofs.Common.{◌≤◌, ◌∙◌, sym, length, arith, add-one}
use Rattle.std.proofs.lemmas.List.{length-map}
use Rattle.dj_frames.specs.Frames.{view_tag, view_tags, is_unborn}
use Rattle.dj_effects.specs.Stacked.{tags_of}
use Rattle.dj_effects.proofs.Lists.{any_here, any_next, any_none, entry_passes}
use Rattle.dj_effects.proofs.stack.is_pushed.Goals as goal

pub returns-then-is_unborn : goal.returns-then-is_unborn
returns-then-is_unborn c =
    let passes = entry_passes (is_unborn c.args.unborn) c.args.top.now c.loop-entry.entry-index c.entry-item.result c.loop-entry-test.true c.entry-item.is in
    record { pushed = sym (any_here (is_unborn c.args.unborn) (view_tags (tags_of c.args.top.now)) c.loop-entry.entry-index (passes ∙ sym c.is_unborn.ensures.unborn ∙ c.if-is_unborn.true)) ∙ c.loop-entry.invariant }

pub loop-entry-preserved : goal.loop-entry-preserved
loop-entry-preserved c =
    let passes = entry_passes (is_unborn c.args.unborn) c.args.top.now c.loop-entry.entry-index c.entry-item.result c.loop-entry-test.true c.entry-item.is in
    rw add-one (sym (any_next (is_unborn c.args.unborn) (view_tags (tags_of c.args.top.now)) c.loop-entry.entry-index (passes ∙ sym c.is_unborn.ensures.unborn ∙ c.if-is_unborn.false)) ∙ c.loop-entry.invariant)

pub returns : goal.returns
returns c =
    let past : length (view_tags (tags_of c.args.top.now)) ≤ c.loop-entry.entry-index = let e = length-map (tags_of c.args.top.now) view_tag in let n = length-map c.args.top.now (λ entry. entry.tag) in let t = c.loop-entry-test.false in omega arith in
    record { pushed = sym (any_none (is_unborn c.args.unborn) (view_tags (tags_of c.args.top.now)) c.loop-entry.entry-index past) ∙ c.loop-entry.invariant }
