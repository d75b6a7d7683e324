use Rattle.std.proofs.Common.{◌≡◌, ◌&&◌, drop, map}
use Rattle.std.specs.Option.{option_map}
use Rattle.dj_names.specs.Types.{view_static}
use Rattle.dj_syntax.specs.Trees.{view_exps}
use Rattle.dj_meaning.specs.StaticTypes.{types_of}
use Rattle.dj_static.specs.Scopes.{scope_of}
use Rattle.dj_typing.specs.Expressions.{are_indexes}
use Rattle.dj_typing.specs.Sites.{context_of}
use Rattle.dj_checked.specs.Sites.{site_of}
use Rattle.dj_checked.specs.Walks as spec
use Rattle.dj_checked.proofs.ListLemmas.{joined}
use Rattle.dj_checked.proofs.expressions.+pass_exp.Given as goal

abbrev pub invariant-pass_exps-loop-exp : goal.invariant-pass_exps-loop-exp
invariant-pass_exps-loop-exp l = record {
  walked : spec.pass_exps (site_of l.site) (scope_of l.scope) (view_exps (drop l.exp-index l.list)) l.walk ≡ spec.pass_exps (site_of l.site) (scope_of l.scope) (view_exps l.list) l.fn.walk;
  typed :
      types_of (context_of (site_of l.site)) (scope_of l.scope) (view_exps l.list)
      ≡ joined (option_map (map view_static) l.types) (types_of (context_of (site_of l.site)) (scope_of l.scope) (view_exps (drop l.exp-index l.list)));
}

abbrev pub invariant-pass_sizes-loop-exp : goal.invariant-pass_sizes-loop-exp
invariant-pass_sizes-loop-exp l = record {
  walked : spec.pass_exps (site_of l.site) (scope_of l.scope) (view_exps (drop l.exp-index l.list)) l.walk ≡ spec.pass_exps (site_of l.site) (scope_of l.scope) (view_exps l.list) l.fn.walk;
  indexed :
      are_indexes (site_of l.site) (scope_of l.scope) (view_exps l.list) ≡ (l.indexed && are_indexes (site_of l.site) (scope_of l.scope) (view_exps (drop l.exp-index l.list)));
}
