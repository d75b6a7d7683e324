use Rattle.std.proofs.Common.{◌≡◌, ℕ, ◌-◌, length, take, drop, ap, arith, length-drop}
use Rattle.std.proofs.lemmas.List.{take_all}
use Rattle.std.proofs.lemmas.Grind.{common_steps}
use Rattle.dj_frames.proofs.SlotTags.{root_over, put_upper, put_lower, put_both}
use Rattle.dj_frames.proofs.tree.+put.Goals as goal

pub returns-then-depth-eq0-clause-put : goal.returns-then-depth-eq0-clause-put
returns-then-depth-eq0-clause-put t c = λ slot within. root_over c.args.depth c.args.start slot c.args.tags.now c.in_ok-root.root c.args.tree.now c.if-depth-eq0.true within c.in_ok-root.ensures.put

pub returns-then-half-start-clause-put : goal.returns-then-half-start-clause-put
returns-then-half-start-clause-put t c = λ slot within.
    put_upper c.args.depth c.half-half.result c.args.tree.now c.in_ok-lower.lower.value c.in_ok-lower.upper.value c.if-depth-eq0.false c.half-half.ensures.half (λ k s is. c.in_ok-lower.ensures.halves k s is) c.args.start slot c.args.tags.now within c.deref.result.now c.in_ok-after.after c.in_ok-new.field-0.value c.fork.result c.if-half-start.true c.deref.ensures c.in_ok-new.ensures.ok (λ s lt. c.in_ok-after.ensures.put s lt)
    (λ k s. c.fork.ensures.halves k s)

pub returns-then-tags-room-clause-put : goal.returns-then-tags-room-clause-put
returns-then-tags-room-clause-put t c = λ slot within.
    put_lower c.args.depth c.half-half.result c.args.tree.now c.in_ok-lower.lower.value c.in_ok-lower.upper.value c.if-depth-eq0.false c.half-half.ensures.half (λ k s is. c.in_ok-lower.ensures.halves k s is) c.args.start slot c.args.tags.now within c.deref-then-tags-room.result.now c.in_ok-after-2.after c.in_ok-new-2.field-0.value c.fork-then-tags-room.result (omega (arith, c.if-half-start.false, c.if-tags-room.true)) c.deref-then-tags-room.ensures c.in_ok-new-2.ensures.ok (λ s lt. c.in_ok-after-2.ensures.put s lt)
    (λ k s. c.fork-then-tags-room.ensures.halves k s)

pub returns-clause-put : goal.returns-clause-put
returns-clause-put t c =
    let tags = c.args.tags.now in
    let room = c.half-half.result - c.args.start in
    let exact : room - 0 ≡ room = omega arith in
    let first : take (room - 0) tags ≡ take room tags = ap (λ (n : ℕ). take n tags) exact in
    let others : take (length tags - room) (drop room tags) ≡ drop room tags = take_all (length tags - room) (drop room tags) (omega (arith, length-drop room tags)) in
    λ slot within.
    put_both c.args.depth c.half-half.result c.args.tree.now c.in_ok-lower.lower.value c.in_ok-lower.upper.value c.if-depth-eq0.false c.half-half.ensures.half (λ k s is. c.in_ok-lower.ensures.halves k s is) c.args.start slot tags within _ _ c.deref-2.result.now c.deref-3.result.now c.in_ok-below.below c.in_ok-above.above c.in_ok-new-3.field-0.value c.in_ok-new-4.field-0.value c.fork-2.result c.if-half-start.false c.deref-2.ensures c.deref-3.ensures c.in_ok-new-3.ensures.ok c.in_ok-new-4.ensures.ok (λ s lt. c.in_ok-below.ensures.put s lt)
    (λ s lt. c.in_ok-above.ensures.put s lt) (first_of (cc, grind (arith, common_steps))) (first_of (cc, grind (arith, common_steps))) (λ k s. c.fork-2.ensures.halves k s)
