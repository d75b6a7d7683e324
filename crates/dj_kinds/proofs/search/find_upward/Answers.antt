use Rattle.std.proofs.Common.{Some, None, arith}
use Rattle.dj_kinds.proofs.SearchLemmas.{up_here, up_next, up_last, up_end}
use Rattle.dj_kinds.proofs.search.find_upward.Goals as goal

pub returns-in-Some : goal.returns-in-Some
returns-in-Some g c = record {
  found = c.loop.invariant (Some c.in-Some.member)
      (up_here (g.D.Declares.own c.args.declares.now) c.args.headers.now c.args.most c.loop.counter c.loop.at.now c.in-Some.member (omega arith) c.in-Some.ensures.own);
}

pub returns-in-None-superclass_of : goal.returns-in-None-superclass_of
returns-in-None-superclass_of g c = record {
  found = c.loop.invariant None
      (up_last (g.D.Declares.own c.args.declares.now) c.args.headers.now c.args.most c.loop.counter c.loop.at.now (omega arith) c.in-None.ensures.own c.in-None-superclass_of.ensures.superclass);
}

pub loop-preserved : goal.loop-preserved
loop-preserved g c = λ found rest.
    c.loop.invariant found
    (up_next (g.D.Declares.own c.args.declares.now) c.args.headers.now c.args.most c.loop.counter c.loop.at.now _ found (omega arith) c.in-None.ensures.own c.in-Some-superclass_of.ensures.superclass rest)

pub returns : goal.returns
returns g c = record {
  found = c.loop.invariant None (up_end (g.D.Declares.own c.args.declares.now) c.args.headers.now c.args.most c.loop.counter c.loop.at.now (omega arith));
}
