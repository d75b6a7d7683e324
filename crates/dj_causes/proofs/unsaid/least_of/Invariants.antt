use Rattle.std.proofs.Common.{Contains, take}
use Rattle.dj_names.specs.Headers.{Name}
use Rattle.dj_sayable.specs.Scopes.{IsScope}
use Rattle.dj_causes.specs.ClassCauses.{IsSaid}
use Rattle.dj_causes.specs.Tables.{IsLeastIfAny}
use Rattle.dj_causes.proofs.unsaid.least_of.Given as goal

abbrev pub invariant-loop-name : goal.invariant-loop-name
invariant-loop-name l = (class : Name) → IsScope l.world.headers l.world.members class l.scope → IsLeastIfAny (λ other. Contains (take l.name-index l.names) other × ¬ IsSaid l.world class other) l.least
