use Rattle.std.proofs.Common.{◌≡◌, All, map, take}
use Rattle.dj_code.specs.MethodCode.{view_code}
use Rattle.dj_verify.specs.declared.landing.Landing.{Landing}
use Rattle.dj_verify.specs.Landings.{IsLanding}
use Rattle.dj_verify.proofs.landing.landings.Given as goal

abbrev pub invariant-loop-handler : goal.invariant-loop-handler
invariant-loop-handler g l = record {
  handlers : map (λ (landing : Landing). landing.handler.now) l.landings.items ≡ take l.handler-index l.handler-items;
  each : All (IsLanding (g.G.Goes.relation l.goes) (view_code l.subject.code.now)) l.landings.items;
}
