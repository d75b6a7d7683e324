use Rattle.std.proofs.Common.{Some, arith}
use Rattle.dj_kinds.specs.Search.{depth_first}
use Rattle.dj_kinds.proofs.SearchLemmas.{step_hit, step_miss}
use Rattle.dj_kinds.proofs.search.find_beside.Goals as goal

pub returns-in-Some : goal.returns-in-Some
returns-in-Some g c = record {
  found = c.loop-interface.invariant (Some c.in-Some.member)
      (step_hit (g.D.Declares.own c.args.declares.now) (depth_first c.args.most c.args.headers.now) c.interfaces_of-interface-items.result.now c.loop-interface.interface-index c.interface-item.result c.in-Some.member (omega arith)
      c.interface-item.is c.in-Some.ensures.found);
}

pub loop-interface-preserved : goal.loop-interface-preserved
loop-interface-preserved g c = λ found rest.
    c.loop-interface.invariant found
    (step_miss (g.D.Declares.own c.args.declares.now) (depth_first c.args.most c.args.headers.now) c.interfaces_of-interface-items.result.now c.loop-interface.interface-index c.interface-item.result found (omega arith) c.interface-item.is
    c.in-None.ensures.found rest)
