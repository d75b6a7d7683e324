use Rattle.std.proofs.Common.{ℕ, ◌+◌, Option, take, sym, subst, ◌∙◌}
use Rattle.dj_frames.specs.Frames.{view_frames}
use Rattle.dj_birth_causes.specs.Leasts.{IsFirst, IsGivenBehind}
use Rattle.dj_birth_causes.proofs.Giving.{given_more, given_same, given_all}
use Rattle.dj_birth_causes.proofs.beginning.first_given.Goals as goal
use Rattle.dj_birth_causes.proofs.beginning.first_given.Goals.{then-frame-gt0, else-frame-gt0}

pub loop-frame-preserved : goal.loop-frame-preserved
loop-frame-preserved c =
    let frames = c.args.frames.now in
    let i = c.loop-frame.frame-index in
    elim c.if-frame-gt0.branch [
      | then-frame-gt0 w ↦ subst (λ (least : Option ℕ). IsFirst (IsGivenBehind (view_frames (take (i + 1) frames))) least) (sym (w.least-is ∙ w.lesser-least.ensures.lesser))
          (given_more frames i c.frame-item.result c.loop-frame-test.true c.frame-item.is c.loop-frame.least c.loop-frame.invariant w.if-frame-gt0.true)
      | else-frame-gt0 w ↦ subst (λ (least : Option ℕ). IsFirst (IsGivenBehind (view_frames (take (i + 1) frames))) least) (sym w.least-is)
          (given_same frames i c.frame-item.result c.loop-frame-test.true c.frame-item.is c.loop-frame.least c.loop-frame.invariant w.if-frame-gt0.false)
    ]

pub returns : goal.returns
returns c = record { first = given_all c.args.frames.now c.loop-frame.frame-index c.loop-frame-test.false c.loop-frame.least c.loop-frame.invariant }
