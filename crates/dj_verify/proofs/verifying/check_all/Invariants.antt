use Rattle.dj_code.specs.MethodCode.{view_code}
use Rattle.dj_verify.specs.Checking.{flow_of}
use Rattle.dj_verify.proofs.PlaceSteps.{HasBegun}
use Rattle.dj_verify.proofs.verifying.check_all.Given as goal

abbrev pub invariant-loop-i : goal.invariant-loop-i
invariant-loop-i g l = HasBegun (g.K.Keeping.keeps l.kept) (g.G.Goes.relation l.goes) (g.G.Goes.known l.goes) (view_code l.subject.code.now) l.i (flow_of l.flow)
