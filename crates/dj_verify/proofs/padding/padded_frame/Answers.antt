use Rattle.std.proofs.Common.{◌≡◌, rules, ap, arith}
use Rattle.std.proofs.lemmas.Grind.{common_steps}
use Rattle.dj_frames.specs.declared.frame.Frame.{Frame}
use Rattle.dj_verify.proofs.PaddedFrames.{padded_is}
use Rattle.dj_verify.proofs.padding.padded_frame.Goals as goal

pub returns : goal.returns
returns c =
    let copy = c.in_ok-all.all in
    let all : Frame = record { locals = c.pad.new.self; stack = copy.stack; unborn_this = copy.unborn_this } in
    let count : c.from.result ≡ c.args.max_locals = first_of (omega arith, search rules, grind (arith, common_steps)) in
    record {
      padded = padded_is c.args.frame.now all c.args.max_locals (rw (c.in_ok-all.ensures.equal, count) at c.in_ok-pad.ensures.ok) (ap (λ (f : Frame). f.stack) c.in_ok-all.ensures.equal) (ap (λ (f : Frame). f.unborn_this) c.in_ok-all.ensures.equal);
    }
