use Rattle.dj_names.specs.Headers.{Name}
use Rattle.dj_sayable.specs.Scopes.{IsScope}
use Rattle.dj_causes.specs.ClassCauses.{IsSaid}
use Rattle.dj_causes.proofs.FirstLemmas.{IsFoundFrom}
use Rattle.dj_causes.proofs.class_causes.first_unsaid.Given as goal

abbrev pub invariant-loop-name : goal.invariant-loop-name
invariant-loop-name l = (class : Name) → IsScope l.world.headers l.world.members class l.scope → IsFoundFrom (λ name. ¬ IsSaid l.world class name) l.names l.name-index
