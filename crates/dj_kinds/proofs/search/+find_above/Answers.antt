use Rattle.std.proofs.Common.{◌-◌, Some, None, arith}
use Rattle.dj_kinds.specs.Search.{depth_first}
use Rattle.dj_kinds.proofs.SearchLemmas.{depth_none, depth_miss, step_hit, step_miss, step_end}
use Rattle.dj_kinds.proofs.search.+find_above.Goals as goal

pub returns-then-not-is_anywhere : goal.returns-then-not-is_anywhere
returns-then-not-is_anywhere g t c = record {
  found = depth_none (g.D.Declares.own c.args.declares.now) c.args.headers.now c.args.most c.args.interface.now (c.is_anywhere.ensures.nowhere c.if-not-is_anywhere.true);
}

pub returns-in-Some-find_above : goal.returns-in-Some-find_above
returns-in-Some-find_above g t c =
    let own = g.D.Declares.own c.args.declares.now in
    let headers = c.args.headers.now in
    record {
      found = depth_miss own headers c.args.most c.args.interface.now (Some c.in-Some-find_above.member) c.if-most-eq0.false c.in-None.ensures.own
          (c.loop-parent.invariant (Some c.in-Some-find_above.member)
          (step_hit own (depth_first (c.args.most - 1) headers) c.interfaces_of-parent-items.result.now c.loop-parent.parent-index c.parent-item.result c.in-Some-find_above.member (omega arith) c.parent-item.is c.in-Some-find_above.ensures.found));
    }

pub loop-parent-preserved : goal.loop-parent-preserved
loop-parent-preserved g t c = λ found rest.
    c.loop-parent.invariant found
    (step_miss (g.D.Declares.own c.args.declares.now) (depth_first (c.args.most - 1) c.args.headers.now) c.interfaces_of-parent-items.result.now c.loop-parent.parent-index c.parent-item.result found (omega arith) c.parent-item.is
    c.in-None-find_above.ensures.found rest)

pub returns-after-loop-parent : goal.returns-after-loop-parent
returns-after-loop-parent g t c =
    let own = g.D.Declares.own c.args.declares.now in
    let headers = c.args.headers.now in
    record {
      found = depth_miss own headers c.args.most c.args.interface.now None c.if-most-eq0.false c.in-None.ensures.own
          (c.loop-parent.invariant None (step_end own (depth_first (c.args.most - 1) headers) c.interfaces_of-parent-items.result.now c.loop-parent.parent-index (omega arith)));
    }
