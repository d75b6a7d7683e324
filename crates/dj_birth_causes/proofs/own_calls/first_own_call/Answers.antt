use Rattle.std.proofs.Common.{map, sym, ◌∙◌}
use Rattle.dj_instructions.specs.Instructions.{view_instructions}
use Rattle.dj_frames.specs.Frames.{view_frame}
use Rattle.dj_receivers.specs.OwnCalls.{calls_own}
use Rattle.dj_birth_causes.proofs.Standing.{least_here}
use Rattle.dj_birth_causes.proofs.own_calls.first_own_call.Goals as goal

pub returns-then-calls_own : goal.returns-then-calls_own
returns-then-calls_own c = record {
  first = least_here calls_own (view_instructions c.args.instructions.now) (map view_frame c.args.frames.now) c.loop-left.left.now c.at-item.result c.in-len1-up.len_at_least c.at-item.is c.loop-left.before.now c.frame-item.result
      c.in-len1-up-before.len_at_least c.frame-item.is c.loop-left.invariant (sym c.calls_own.ensures.own ∙ c.if-calls_own.true);
}
