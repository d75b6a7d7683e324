-- The tables of names that are kept beside the members of classes.
use Rattle.std.specs.Prelude.{◌≡◌, ℕ, ◌<◌, ◌^◌, Bool, true, false, List, map, Some, length, slice_get}
use Rattle.dj_names.specs.declared.members.ClassMembers.{ClassMembers}
use Rattle.dj_names.specs.declared.members.Field.{Field}
use Rattle.dj_names.specs.declared.members.MethodHead.{MethodHead}
use Rattle.dj_names.specs.declared.members.Member.{Member}
use Rattle.dj_names.specs.Headers.{Name}
use Rattle.dj_members.specs.declared.member_table.ClassTable.{ClassTable}

-- the names of methods, in order
abbrev pub method_names : List MethodHead → List Name
method_names = map (λ (method : MethodHead). method.name)

-- the names of fields, in order
abbrev pub field_names : List Field → List Name
field_names = map (λ (field : Field). field.name)

-- the names of a class's fields and methods
abbrev pub names_in : ClassMembers → ClassTable
names_in own = record { fields = field_names own.fields; methods = method_names own.methods }

-- the names of a class's methods, or of its fields, in order
abbrev pub member_names : Bool → ClassMembers → List Name
member_names true own = method_names own.methods
member_names false own = field_names own.fields

-- the member is there and has this name
pub record IsNamed (classes : List ClassMembers) (member : Member) (name : Name) : Type 0 where
  pub own : ClassMembers
  pub class : slice_get classes member.class ≡ Some own
  pub named : slice_get (member_names member.method own) member.number ≡ Some name

-- the member stands among these, where its name stands
pub record IsListed (names : List Name) (members : List Member) (member : Member) (name : Name) : Type 0 where
  pub at : ℕ
  pub named : slice_get names at ≡ Some name
  pub is : slice_get members at ≡ Some member

-- each of these names of a class's methods or fields is listed
abbrev pub Lists : ℕ → Bool → List Name → List Name → List Member → Type 0
Lists class method own names members =
    (number : ℕ) (name : Name) → slice_get own number ≡ Some name → IsListed names members (record { class = class; method = method; number = number }) name

-- what was listed still is, and each name has its member
pub record Grows (names : List Name) (members : List Member) (more_names : List Name) (more_members : List Member) : Type 0 where
  pub kept : (member : Member) (name : Name) → IsListed names members member name → IsListed more_names more_members member name
  pub size : length more_names ≡ length more_members

-- each member of the classes is listed
abbrev pub Covers : List ClassMembers → List Name → List Member → Type 0
Covers classes names members = (member : Member) (name : Name) → IsNamed classes member name → IsListed names members member name

-- the tables are of the names of these classes' members, each place fits a u32, and each member is listed by its name
pub record KeepsTables (classes : List ClassMembers) (tables : List ClassTable) (names : List Name) (members : List Member) : Type 0 where
  pub named : tables ≡ map names_in classes
  pub room : length classes < 2 ^ 32
  pub fits : (at : ℕ) (own : ClassMembers) → slice_get classes at ≡ Some own → (length own.fields < 2 ^ 32) × (length own.methods < 2 ^ 32)
  pub covers : Covers classes names members
  pub size : length names ≡ length members
