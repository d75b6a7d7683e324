use Rattle.std.proofs.Common.{sym, ap, ◌∙◌}
use Rattle.dj_static.specs.Scopes.{scope_of}
use Rattle.dj_scopes.specs.Keeping.{scope_back}
use Rattle.dj_scopes.proofs.KeepingLemmas.{scope_back-push}
use Rattle.dj_scopes.proofs.keeping.put_back.Goals as goal

pub loop-one-preserved : goal.loop-one-preserved
loop-one-preserved c =
    ap (scope_back c.pop.new.self) c.in_ok-put_kind.ensures.put ∙ sym (scope_back-push c.pop.new.self c.in-Some.one (scope_of c.loop-one.scope))
    ∙ ap (λ list. scope_back list (scope_of c.loop-one.scope)) (sym c.in-Some.ensures) ∙ c.loop-one.invariant
