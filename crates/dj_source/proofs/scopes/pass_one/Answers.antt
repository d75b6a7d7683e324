use Rattle.std.proofs.Common.{Some, ◌≡◌}
use Rattle.dj_names.specs.Types.{view_type}
use Rattle.dj_static.specs.Scopes.{scope_of}
use Rattle.dj_meaning.specs.Declarations.{within}
use Rattle.dj_scopes.specs.Keeping.{scope_back}
use Rattle.dj_source.proofs.WhereLemmas.{where_then}
use Rattle.dj_scopes.proofs.KeepingLemmas.{scope_kept}
use Rattle.dj_source.proofs.scopes.pass_one.Goals as goal

pub returns-in_ok-keep-in-Some-clause-back : goal.returns-in_ok-keep-in-Some-clause-back
returns-in_ok-keep-in-Some-clause-back c =
    let scope = scope_of c.args.scope.now in
    let after = scope_of c.open.new.scope in
    let more = c.keep.new.kept.kinds in
    let one = Some (c.in-Some.variable, view_type c.in-Some.kind.now) in
    where_then c.open.result (after ≡ within one scope) (scope_back more after ≡ scope_back c.args.kept.now.kinds scope) (scope_kept c.args.kept.now.kinds more one scope after c.in_ok-keep-in-Some.ensures.scope) c.open.ensures.scope
