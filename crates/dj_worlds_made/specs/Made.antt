-- What is known of the classes of a world since class files and the table of core classes made it (JVMS 4.1, 4.7.2).
use Rattle.std.specs.Prelude.{◌≡◌, ℕ, List, Some, [], Contains, IsSome, map, codes}
use Rattle.dj_names.specs.declared.members.Constant.{Constant}
use Rattle.dj_names.specs.declared.members.Field.{Field}
use Rattle.dj_names.specs.declared.members.ClassMembers.{ClassMembers}
use Rattle.dj_names.specs.Types.{view_type, result_of}
use Rattle.dj_names.specs.Assignable.{object_name}
use Rattle.dj_world.specs.Worlds.{WorldOf, IsWorld}
use Rattle.dj_meaning.specs.Members.{Method, view_members, parameters}
use Rattle.dj_meaning.specs.Visible.{members_of, methods_in}
use Rattle.dj_loaded.specs.Loaded.{AreRooted}
use Rattle.dj_held.specs.Running.{FitsField, AreMembers}
use Rattle.dj_load.specs.HeldFiles.{Finds, MakesWorld}

-- each class but Object names a superclass, and each constant is of its field's type
pub record IsMadeWorld (world : WorldOf) : Type 0 where
  pub rooted : AreRooted world.headers
  pub constants : (members : ClassMembers) (field : Field) (kept : Constant) → Contains world.members members → Contains members.fields field → field.constant ≡ Some kept → FitsField (view_type field.descriptor) kept

-- the method `clone` of Object, which each array has, gives a value (JLS 10.7)
abbrev pub HasClones : WorldOf → Type 0
HasClones world =
    (method : Method) → Contains (methods_in (members_of world.headers (map view_members world.members) object_name)) method → method.name ≡ codes "clone" → parameters method ≡ [] → IsSome (result_of method.descriptor)

-- ---- the laws

-- the world of each order is so
abbrev pub WorldsAreMade : Type 0
WorldsAreMade = (contents library : List (List ℕ)) (found : Finds) (world : WorldOf) → MakesWorld contents library found world → IsMadeWorld world

-- and its members are those of its classes
abbrev pub MadeWorldsHaveMembers : Type 0
MadeWorldsHaveMembers = (world : WorldOf) → IsWorld world → IsMadeWorld world → HasClones world → AreMembers world.headers (map view_members world.members)
