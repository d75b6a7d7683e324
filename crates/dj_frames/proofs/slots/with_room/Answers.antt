use Rattle.std.proofs.Common.{◌≡◌, ◌+◌, ◌-◌, ◌≤◌, ◌^◌, ℕ, suc, ap, ◌∙◌, arith}
use Rattle.std.proofs.Math.Pow.{pow_mono}
use Rattle.dj_frames.specs.SlotTree.{tag_in}
use Rattle.dj_frames.proofs.slots.with_room.Goals as goal

pub loop-now-init : goal.loop-now-init
loop-now-init c =
    let here : c.args.depth + 1 - 1 ≡ c.args.depth = omega arith in
    record {
      same = λ slot lt. ap (λ (n : ℕ). tag_in n c.in_ok-grown.grown slot) here ∙ c.in_ok-grown.ensures.same c.args.depth slot;
      marked = c.in_ok-grown.ensures.marked;
    }

pub loop-now-preserved : goal.loop-now-preserved
loop-now-preserved c =
    let later : c.args.depth ≤ c.loop-now.now - 1 = omega arith in
    let room : 2 ^ c.args.depth ≤ 2 ^ (c.loop-now.now - 1) = pow_mono later in
    let deeper : c.loop-now.now + 1 - 1 ≡ suc (c.loop-now.now - 1) = omega arith in
    record {
      same = λ slot lt. ap (λ (n : ℕ). tag_in n c.in_ok-grown-2.grown slot) deeper ∙ c.in_ok-grown-2.ensures.same (c.loop-now.now - 1) slot (omega (arith, lt, room)) ∙ c.loop-now.invariant.same slot lt;
      marked = c.in_ok-grown-2.ensures.marked;
    }

pub returns-then-has_room-2-clause-same : goal.returns-then-has_room-2-clause-same
returns-then-has_room-2-clause-same c = λ slot lt.
    let later : c.args.depth ≤ c.loop-now.now - 1 = omega arith in
    let room : 2 ^ c.args.depth ≤ 2 ^ (c.loop-now.now - 1) = pow_mono later in
    let deeper : c.loop-now.now ≡ suc (c.loop-now.now - 1) = omega arith in
    ap (λ (n : ℕ). tag_in n c.in_ok-grown-2.grown slot) deeper ∙ c.in_ok-grown-2.ensures.same (c.loop-now.now - 1) slot (omega (arith, lt, room)) ∙ c.loop-now.invariant.same slot lt
