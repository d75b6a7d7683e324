use Rattle.std.proofs.Common.{◌≡◌, ◌⊎◌, ◌+◌, Contains, take, inl, inr, subst}
use Rattle.std.proofs.lemmas.List.{take_all}
use Rattle.dj_names.specs.Headers.{Name, names}
use Rattle.dj_sayable.proofs.GatheringLemmas.{contains_more}
use Rattle.dj_causes.specs.Tables.{IsLeastIfAny}
use Rattle.dj_causes.proofs.LeastLemmas.{lesser_least, least_like}
use Rattle.dj_code_causes.proofs.names.least_missing.Goals as goal

pub loop-name-preserved : goal.loop-name-preserved
loop-name-preserved c =
    let xs = c.args.classes.now in
    let i = c.loop-name.name-index in
    let x = c.name-item.result in
    let Absent : Name → Type 0 = λ other. ¬ Contains (names c.args.world.now.headers) other in
    let P : Name → Type 0 = λ other. Contains (take i xs) other × Absent other in
    let Q : Name → Type 0 = λ other. (x ≡ other) × Absent other in
    least_like (λ other. P other ⊎ Q other) (λ other. Contains (take (i + 1) xs) other × Absent other)
    (λ other.
    let more = contains_more xs i x c.loop-name-test.true c.name-item.is other in (
      λ either. elim either [ inl before ↦ (more.0 (inl before.0), before.1) | inr here ↦ (more.0 (inr here.0), here.1) ],
      λ both. elim (more.1 both.0) [ inl before ↦ inl (before, both.1) | inr here ↦ inr (here, both.1) ],
    ))
    c.lesser-least.result
    (lesser_least P Q c.loop-name.least c.in_ok-found.found c.lesser-least.result c.lesser-least.ensures.lesser c.loop-name.invariant (rw c.headers.ensures.headers at c.in_ok-found.ensures.missing))

pub returns : goal.returns
returns c = record {
  least = subst (λ ys. IsLeastIfAny (λ other. Contains ys other × ¬ Contains (names c.args.world.now.headers) other) c.loop-name.least) (take_all c.loop-name.name-index c.args.classes.now c.loop-name-test.false) c.loop-name.invariant;
}
