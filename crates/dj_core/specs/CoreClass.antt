-- A class that is known without a file, as plain data, and what is made of it.
use Rattle.std.specs.Prelude.{◌≡◌, ℕ, List, [], ◌∷◌, Option, map}
use Rattle.dj_names.specs.declared.header.Header.{Header}
use Rattle.dj_names.specs.declared.members.MethodHead.{MethodHead}
use Rattle.dj_names.specs.declared.members.ClassMembers.{ClassMembers}
use Rattle.dj_names.specs.Headers.{Name}
use Rattle.dj_names.specs.Types.{Descriptor, view_descriptor}

-- a method: its flags, name and descriptor, and the classes that it declares to throw (JVMS 4.6)
pub record CoreMethod : Type 0 where
  pub flags : ℕ
  pub name : List ℕ
  pub descriptor : Descriptor
  pub thrown : List Name

-- a class or interface, which has methods alone (JVMS 4.1)
pub record CoreClass : Type 0 where
  pub name : Name
  pub flags : ℕ
  pub superclass : Option Name
  pub interfaces : List Name
  pub methods : List CoreMethod

-- a method of the code, seen as plain data
abbrev pub view_head : MethodHead → CoreMethod
view_head head = record { flags = head.flags; name = head.name; descriptor = view_descriptor head.descriptor; thrown = head.thrown }

-- the header of such a class
abbrev pub core_header : CoreClass → Header
core_header core = record { name = core.name; superclass = core.superclass; interfaces = core.interfaces; flags = core.flags }

-- the members of such a class, which names itself alone
pub record AreCoreMembers (core : CoreClass) (members : ClassMembers) : Type 0 where
  pub fields : members.fields ≡ []
  pub methods : map view_head members.methods ≡ core.methods
  pub named : members.named ≡ core.name ∷ []

-- the header and the members are those of such a class
pub record IsMade (core : CoreClass) (header : Header) (members : ClassMembers) : Type 0 where
  pub header_is : header ≡ core_header core
  pub are_members : AreCoreMembers core members
