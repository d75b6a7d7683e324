use Rattle.std.proofs.Common.{◌≡◌, ◌⊎◌, ◌+◌, Contains, take, inl, inr, subst, arith}
use Rattle.std.proofs.lemmas.List.{take_all}
use Rattle.dj_names.specs.Headers.{Name}
use Rattle.dj_sayable.proofs.GatheringLemmas.{contains_more}
use Rattle.dj_causes.specs.ClassCauses.{IsSaid}
use Rattle.dj_causes.specs.Tables.{IsLeastIfAny}
use Rattle.dj_causes.proofs.LeastLemmas.{lesser_least, least_like}
use Rattle.dj_causes.proofs.unsaid.least_of.Goals as goal

pub loop-name-init : goal.loop-name-init
loop-name-init c = λ class is_scope name both. (let within = both.0.1 in omega arith)

pub loop-name-preserved : goal.loop-name-preserved
loop-name-preserved c = λ class is_scope.
    let xs = c.args.names.now in
    let i = c.loop-name.name-index in
    let x = c.name-item.result in
    let Unsaid : Name → Type 0 = λ other. ¬ IsSaid c.args.world.now class other in
    let P : Name → Type 0 = λ other. Contains (take i xs) other × Unsaid other in
    let Q : Name → Type 0 = λ other. (x ≡ other) × Unsaid other in
    least_like (λ other. P other ⊎ Q other) (λ other. Contains (take (i + 1) xs) other × Unsaid other)
    (λ other.
    let more = contains_more xs i x c.loop-name-test.true c.name-item.is other in (
      λ either. elim either [ inl before ↦ (more.0 (inl before.0), before.1) | inr here ↦ (more.0 (inr here.0), here.1) ],
      λ both. elim (more.1 both.0) [ inl before ↦ inl (before, both.1) | inr here ↦ inr (here, both.1) ],
    ))
    c.lesser-least.result
    (lesser_least P Q c.loop-name.least c.in_ok-found.found c.lesser-least.result c.lesser-least.ensures.lesser (c.loop-name.invariant class is_scope) (c.in_ok-found.ensures.unsaid class is_scope))

pub returns : goal.returns
returns c = record {
  least = λ class is_scope. subst (λ ys. IsLeastIfAny (λ other. Contains ys other × ¬ IsSaid c.args.world.now class other) c.loop-name.least) (take_all c.loop-name.name-index c.args.names.now c.loop-name-test.false) (c.loop-name.invariant class is_scope);
}
