use Rattle.std.proofs.Common.{◌<◌, length, subst, get_or, ◌≡◌}
use Rattle.dj_split.specs.Ranges.{parts_of}
use Rattle.dj_split.proofs.Ranging.{step-catchers, step-ranges}
use Rattle.dj_split.proofs.catchers.add_handlers.Goals as goal

pub loop-handler-preserved : goal.loop-handler-preserved
loop-handler-preserved c =
    let parts = parts_of c.args.typed.now c.args.starts.now c.args.vars.now in
    let all = c.args.typed.now.code.handlers in
    let index = c.loop-handler.handler-index in
    let item = c.handler-item.result in
    let is = subst (λ list. item ≡ get_or list index item) c.as_slice-handler-items.ensures c.handler-item.is in
    let within = subst (λ list. index < length list) c.as_slice-handler-items.ensures c.loop-handler-test.true in
    let done = c.in_ok-add_handler.ensures in
    record {
      catchers = step-catchers parts all index item is within c.loop-handler.catchers.items c.add_handler.new.catchers.items _ done.catchers c.loop-handler.invariant.catchers;
      ranges = step-ranges parts all index item is within c.loop-handler.catchers.items c.add_handler.new.catchers.items done.catchers c.loop-handler.ranges c.add_handler.new.ranges _ done.ranges c.loop-handler.invariant.ranges;
    }
