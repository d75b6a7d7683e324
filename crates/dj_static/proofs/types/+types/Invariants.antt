use Rattle.std.proofs.Common.{◌≡◌, ◌++◌, drop, map}
use Rattle.std.specs.Option.{option_map}
use Rattle.dj_names.specs.Types.{view_static}
use Rattle.dj_syntax.specs.Trees.{view_exps}
use Rattle.dj_meaning.specs.StaticTypes.{types_of}
use Rattle.dj_static.specs.Scopes.{scope_of}
use Rattle.dj_static.specs.Views.{context_in}
use Rattle.dj_static.proofs.types.+types.Given as goal

abbrev pub invariant-types_of-loop-exp : goal.invariant-types_of-loop-exp
invariant-types_of-loop-exp l =
    types_of (context_in l.classes) (scope_of l.scope) (view_exps l.exps)
    ≡ option_map (λ more. map view_static l.types ++ more) (types_of (context_in l.classes) (scope_of l.scope) (view_exps (drop l.exp-index l.exps)))
