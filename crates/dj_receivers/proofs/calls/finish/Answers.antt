use Rattle.dj_code.specs.MethodCode.{view_typed}
use Rattle.dj_receivers.proofs.Finishing.{keeps_then, step_keeps, step_sound, step_closed, step_less}
use Rattle.dj_receivers.proofs.calls.finish.Goals as goal

pub loop-pc-preserved : goal.loop-pc-preserved
loop-pc-preserved c =
    let typed = view_typed c.args.typed.now in
    let joins = c.args.joins.now in
    let now = c.loop-pc.marking in
    let new = c.run.new.marking in
    record {
      keeps = keeps_then c.args.marking.now now new c.loop-pc.invariant.keeps (step_keeps typed joins now new c.pop.new.self c.in-Some.pc c.in-Some.ensures c.in_ok-run.ensures.finishes);
      sound = step_sound typed joins now new c.pop.new.self c.in-Some.pc c.in-Some.ensures c.in_ok-run.ensures.finishes c.loop-pc.invariant.sound;
      closed = step_closed typed joins now new c.pop.new.self c.in-Some.pc c.in-Some.ensures c.in_ok-run.ensures.finishes c.loop-pc.invariant.closed;
    }

pub loop-pc-smaller : goal.loop-pc-smaller
loop-pc-smaller c = step_less (view_typed c.args.typed.now) c.args.joins.now c.loop-pc.marking c.run.new.marking c.pop.new.self c.in-Some.pc c.in-Some.ensures c.in_ok-run.ensures.finishes
