-- How the core classes are filled in.
use Rattle.std.specs.Prelude.{◌≡◌, List, [], ◌∷◌}
use Rattle.dj_names.specs.declared.members.ClassMembers.{ClassMembers}
use Rattle.dj_core.specs.CoreClass.{CoreClass, core_header, AreCoreMembers}
use Rattle.dj_world.specs.declared.fault.ClashKind.{ClashKind}
use Rattle.dj_world.specs.Clashes.{Clashes}
use Rattle.dj_world.specs.Worlds.{WorldOf, IsAdded}

-- a core class is added where it clashes with none, and else passed over
pub data Takes (old : WorldOf) (core : CoreClass) (new : WorldOf) : Type 0 where
  added : (members : ClassMembers) → AreCoreMembers core members → IsAdded old (core_header core) members new → Takes old core new
  passed_over : (kind : ClashKind) → Clashes old.headers (core_header core) kind → new ≡ old → Takes old core new

-- core classes are taken one after another
abbrev pub Fills : WorldOf → List CoreClass → WorldOf → Type 0
Fills old [] new = old ≡ new
Fills old (core ∷ cores) new = (between : WorldOf) × Takes old core between × Fills between cores new
