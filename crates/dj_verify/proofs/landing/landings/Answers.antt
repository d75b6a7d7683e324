use Rattle.dj_code.specs.MethodCode.{view_code}
use Rattle.dj_verify.proofs.LandingFrames.{more_handlers, more_landings}
use Rattle.dj_verify.proofs.landing.landings.Goals as goal

pub loop-handler-preserved : goal.loop-handler-preserved
loop-handler-preserved g c =
    let R = g.G.Goes.relation c.args.goes.now in
    let code = view_code c.args.subject.now.code.now in
    let all = c.as_slice-handler-items.result.now in
    let count = c.loop-handler.handler-index in
    let handler = c.handler-item.result in
    let before = c.loop-handler.landings.items in
    let more = c.push.new.self.items in
    let landing = c.in_ok-landing_of.field-0 in
    record {
      handlers = more_handlers R code all count handler c.loop-handler-test.true c.handler-item.is before more landing c.loop-handler.invariant.handlers c.in_ok-landing_of.ensures.handler c.in_ok-push.ensures.items;
      each = more_landings R code all count handler c.loop-handler-test.true c.handler-item.is before more landing c.loop-handler.invariant.each c.in_ok-landing_of.ensures.landing c.in_ok-push.ensures.items;
    }
