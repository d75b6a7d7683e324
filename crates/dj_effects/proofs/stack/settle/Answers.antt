use Rattle.std.proofs.Common.{◌≡◌, ◌+◌, ◌++◌, ◌∷◌, [], ◌∙◌, ap, take, sym}
use Rattle.std.proofs.lemmas.List.{append_assoc, take_all}
use Rattle.dj_effects.specs.Stacked.{tags_of}
use Rattle.dj_effects.proofs.Stacking.{tags_more}
use Rattle.dj_effects.proofs.stack.settle.Goals as goal

pub loop-entry-preserved : goal.loop-entry-preserved
loop-entry-preserved c =
    let items = c.args.top.now in
    let entry = c.entry-item.result in
    let more : tags_of (take (c.loop-entry.entry-index + 1) items) ≡ tags_of (take c.loop-entry.entry-index items) ++ entry.tag ∷ [] = tags_more items c.loop-entry.entry-index entry c.loop-entry-test.true (sym c.entry-item.is) in
    let pushed : c.push.new.self ≡ c.loop-entry.below ++ entry.tag ∷ [] = rw (← c.in_ok-copy.ensures.equal) c.in_ok-push.ensures.ok in
    pushed ∙ ap (λ l. l ++ entry.tag ∷ []) c.loop-entry.invariant ∙ append_assoc c.args.below.now (tags_of (take c.loop-entry.entry-index items)) (entry.tag ∷ []) ∙ ap (λ l. c.args.below.now ++ l) (sym more)

pub returns : goal.returns
returns c = record { ok = c.loop-entry.invariant ∙ ap (λ l. c.args.below.now ++ tags_of l) (take_all c.loop-entry.entry-index c.args.top.now c.loop-entry-test.false) }
