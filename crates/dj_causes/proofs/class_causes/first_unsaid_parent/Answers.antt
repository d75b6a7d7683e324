use Rattle.std.proofs.Common.{List, MatchOption, subst}
use Rattle.dj_names.specs.Headers.{Name}
use Rattle.dj_class.specs.Views.{view_class}
use Rattle.dj_causes.specs.Firsts.{IsFirstWith}
use Rattle.dj_causes.specs.ClassCauses.{IsSaid}
use Rattle.dj_causes.proofs.ClassCauseLemmas.{parents_below, parents_alone}
use Rattle.dj_causes.proofs.class_causes.first_unsaid_parent.Goals as goal

pub returns-in_ok-found-in-Some : goal.returns-in_ok-found-in-Some
returns-in_ok-found-in-Some c = record {
  first = λ own is_scope.
      subst
      (λ (names : List Name). MatchOption c.in_ok-found-in-Some.found ((name : Name) → ¬ IsFirstWith (λ parent. ¬ IsSaid c.args.world.now own parent) names name) (IsFirstWith (λ parent. ¬ IsSaid c.args.world.now own parent) names))
      (parents_below (view_class c.args.class.now) c.in-Some.superclass c.in-Some.is) (rw c.as_slice.ensures at (c.in_ok-found-in-Some.ensures.first own is_scope));
}

pub returns-in_ok-found-in-None : goal.returns-in_ok-found-in-None
returns-in_ok-found-in-None c = record {
  first = λ own is_scope.
      subst
      (λ (names : List Name). MatchOption c.in_ok-found-in-None.found ((name : Name) → ¬ IsFirstWith (λ parent. ¬ IsSaid c.args.world.now own parent) names name) (IsFirstWith (λ parent. ¬ IsSaid c.args.world.now own parent) names))
      (parents_alone (view_class c.args.class.now) c.in-None.is) (rw c.as_slice-in-None.ensures at (c.in_ok-found-in-None.ensures.first own is_scope));
}
