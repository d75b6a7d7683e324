-- The fields and methods of classes as plain data (JVMS 4.5, 4.6).
use Rattle.std.specs.Prelude.{ℕ, ◌==◌, Bool, not, bit_and, List, map, Option}
use Rattle.dj_names.specs.declared.members.Constant.{Constant}
use Rattle.dj_names.specs.declared.members.Field as code_field
use Rattle.dj_names.specs.declared.members.MethodHead as code_method
use Rattle.dj_names.specs.declared.members.ClassMembers as code_members
use Rattle.dj_names.specs.Headers.{Name}
use Rattle.dj_names.specs.Types.{JType, Descriptor, view_type, view_descriptor, parameters_of}

-- a field, with its constant, where it has one
pub record Field : Type 0 where
  pub flags : ℕ
  pub name : Name
  pub type : JType
  pub constant : Option Constant

-- a method
pub record Method : Type 0 where
  pub flags : ℕ
  pub name : Name
  pub descriptor : Descriptor

-- the members of a class, in the order of its file
pub record Members : Type 0 where
  pub fields : List Field
  pub methods : List Method

-- ---- those of the code

-- a field
abbrev pub view_field : code_field.Field → Field
view_field field = record { flags = field.flags; name = field.name; type = view_type field.descriptor; constant = field.constant }

-- a method
abbrev pub view_method : code_method.MethodHead → Method
view_method method = record { flags = method.flags; name = method.name; descriptor = view_descriptor method.descriptor }

-- the members of a class
abbrev pub view_members : code_members.ClassMembers → Members
view_members members = record { fields = map view_field members.fields; methods = map view_method members.methods }

-- the parameter types of a method
abbrev pub parameters : Method → List JType
parameters method = parameters_of method.descriptor

-- ---- flags (JVMS tables 4.5-A, 4.6-A)

-- a flag is set
abbrev pub has_flag : ℕ → ℕ → Bool
has_flag flag flags = not (bit_and flags flag == 0)

-- ACC_PUBLIC
abbrev pub is_public : ℕ → Bool
is_public = has_flag 0x0001

-- ACC_PRIVATE
abbrev pub is_private : ℕ → Bool
is_private = has_flag 0x0002

-- ACC_PROTECTED
abbrev pub is_protected : ℕ → Bool
is_protected = has_flag 0x0004

-- ACC_STATIC
abbrev pub is_of_class : ℕ → Bool
is_of_class = has_flag 0x0008

-- ACC_FINAL
abbrev pub is_final : ℕ → Bool
is_final = has_flag 0x0010

-- ACC_BRIDGE, of methods
abbrev pub is_bridge : ℕ → Bool
is_bridge = has_flag 0x0040
