-- Worlds, and how a class file is added to one.
use Rattle.std.specs.Prelude.{◌≡◌, List, [], ◌∷◌, ◌++◌, map, length, ⊤}
use Rattle.dj_names.specs.declared.header.Header.{Header}
use Rattle.dj_names.specs.declared.members.MethodHead.{MethodHead}
use Rattle.dj_names.specs.declared.members.ClassMembers.{ClassMembers}
use Rattle.dj_class.specs.declared.class.ClassFile.{ClassFile}
use Rattle.dj_class.specs.declared.method.Method.{Method}
use Rattle.dj_world.specs.declared.fault.AddFault.{AddFault}
use Rattle.dj_world.specs.declared.fault.AddFault.TheVariants as fault
use Rattle.dj_world.specs.Clashes.{IsLawful, IsLeastClash, MayBeAdded}
use Rattle.dj_world.specs.Named.{AreNamed}

-- classes in the order in which they were added: each has a header and members
pub record WorldOf : Type 0 where
  pub headers : List Header
  pub members : List ClassMembers

-- no class clashes with another, and each has members
pub record IsWorld (world : WorldOf) : Type 0 where
  pub lawful : IsLawful world.headers
  pub paired : length world.members ≡ length world.headers

-- the header of a class file (JVMS 4.1)
abbrev pub header_of : ClassFile → Header
header_of class = record { name = class.this_class; superclass = class.super_class; interfaces = class.interfaces; flags = class.flags }

-- a method without its code (JVMS 4.6)
abbrev pub head_of : Method → MethodHead
head_of method = record { flags = method.flags; name = method.name; descriptor = method.descriptor; thrown = method.thrown }

-- the members of a class file, and the classes that it names (JVMS 4.5, 4.6)
pub record AreMembersOf (class : ClassFile) (members : ClassMembers) : Type 0 where
  pub fields : members.fields ≡ class.fields
  pub methods : members.methods ≡ map head_of class.methods
  pub named : AreNamed class members.named

-- a class that clashes with none was added behind the others
pub record IsAdded (old : WorldOf) (header : Header) (brought : ClassMembers) (new : WorldOf) : Type 0 where
  pub may_be_added : MayBeAdded old.headers header
  pub headers : new.headers ≡ old.headers ++ header ∷ []
  pub members : new.members ≡ old.members ++ brought ∷ []

-- the class of a class file was added
pub record IsFileAdded (old : WorldOf) (class : ClassFile) (new : WorldOf) : Type 0 where
  pub its_members : ClassMembers
  pub are_members : AreMembersOf class its_members
  pub is_added : IsAdded old (header_of class) its_members new

-- the fault is the least clash of a class with this header, or memory is out
abbrev pub IsAddFault : List Header → Header → AddFault → Type 0
IsAddFault headers header (fault.Clash kind) = IsLeastClash headers header kind
IsAddFault headers header (fault.Memory error) = ⊤
