use Rattle.std.proofs.Common.{ap, ◌∙◌}
use Rattle.dj_static.specs.Scopes.{scope_of}
use Rattle.dj_scopes.specs.Keeping.{with_kind, scope_back}
use Rattle.dj_scopes.proofs.KeepingLemmas.{kept_one}
use Rattle.dj_body_types.proofs.statements.open_catch.Goals as goal

pub returns-clause-kept : goal.returns-clause-kept
returns-clause-kept c =
    let variable = c.args.catch.now.variable in
    let before = scope_of c.args.scope.now in
    c.in_ok-keep.ensures.kept (scope_of c.declare.new.scope)
    ∙ ap (scope_back c.args.kept.now) (ap (with_kind variable (before variable)) c.in_ok-declare.ensures.declared ∙ kept_one variable _ before)
