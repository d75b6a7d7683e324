use Rattle.std.proofs.Common.{map, sym, ◌∙◌}
use Rattle.dj_instructions.specs.Instructions.{view_instructions}
use Rattle.dj_frames.specs.Frames.{view_frame}
use Rattle.dj_code.specs.MethodCode.{view_code}
use Rattle.dj_escaping.specs.Escaping.{lets_escape}
use Rattle.dj_birth_causes.proofs.Standing.{least_here, left_past}
use Rattle.dj_birth_causes.proofs.beginning.first_escaping.Goals as goal

pub returns-then-call-at : goal.returns-then-call-at
returns-then-call-at c = record {
  first = λ pc escapes. left_past (lets_escape c.args.world.now (view_code c.args.typed.now.code)) (view_instructions c.args.typed.now.code.instructions) (map view_frame c.args.typed.now.frames) c.loop-left.left.now c.at-item.result
      c.in-len1-up.len_at_least c.at-item.is c.loop-left.before.now c.frame-item.result c.in-len1-up-before.len_at_least c.frame-item.is c.loop-left.invariant c.args.call c.if-call-at.true pc escapes.0 escapes.1;
}

pub returns-then-branch : goal.returns-then-branch
returns-then-branch c =
    let least = least_here (lets_escape c.args.world.now (view_code c.args.typed.now.code)) (view_instructions c.args.typed.now.code.instructions) (map view_frame c.args.typed.now.frames) c.loop-left.left.now c.at-item.result
    c.in-len1-up.len_at_least c.at-item.is c.loop-left.before.now c.frame-item.result c.in-len1-up-before.len_at_least c.frame-item.is c.loop-left.invariant (sym c.in_ok-lets_escape.ensures.escapes ∙ c.if-branch.true) in
    record { first = record { here = (c.if-call-at.false, least.here); least = λ other escapes. least.least other escapes.1 } }
