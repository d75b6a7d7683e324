use Rattle.std.proofs.Common.{[], Any, take}
use Rattle.dj_sayable.specs.Saying.{DeclaresField}
use Rattle.dj_sayable.specs.Gathering.{Gains}
use Rattle.dj_sayable.proofs.scope.fields_of.Given as goal

abbrev pub invariant-loop-class : goal.invariant-loop-class
invariant-loop-class l = Gains [] l.names (λ field. Any (DeclaresField l.headers l.members.classes field) (take l.class-index l.classes))
