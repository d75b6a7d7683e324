use Rattle.std.proofs.Common.{◌≡◌, take}
use Rattle.dj_names.proofs.members.Members.copy.Given as goal

abbrev pub invariant-loop-class : goal.invariant-loop-class
invariant-loop-class l = l.classes ≡ take l.class-index l.class-items
