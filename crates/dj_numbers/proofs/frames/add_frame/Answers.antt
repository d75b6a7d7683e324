use Rattle.std.proofs.Common.{◌∙◌, ℕ, ap, arith}
use Rattle.std.proofs.lemmas.List.{length-map}
use Rattle.dj_frames.specs.Frames.{view_frame, view_tag}
use Rattle.dj_numbers.specs.Numbers.{view_variables, with_slots}
use Rattle.dj_numbers.specs.Frames.{frame_type}
use Rattle.dj_numbers.proofs.frames.add_frame.Goals as goal

pub returns-clause-variables : goal.returns-clause-variables
returns-clause-variables c =
    let seen = length-map c.args.frame.now.stack view_tag in
    c.loop-slot.invariant.variables
    ∙ ap (λ (n : ℕ). with_slots (view_variables c.args.numbers.now.variables) (frame_type c.args.most (view_frame c.args.frame.now)) n)
    (let test = c.loop-slot-test.false in let up = c.loop-slot.auto.slot-end in let len = c.len.ensures.len in let sum = c.in-Some.ensures.1 in omega (arith, test, up, len, sum, seen))
