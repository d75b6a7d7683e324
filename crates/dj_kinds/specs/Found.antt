-- The member that is found for a name and a descriptor (JVMS 5.4.3.2 to 5.4.3.4).
use Rattle.std.specs.Prelude.{ℕ, List}
use Rattle.dj_names.specs.declared.header.Header.{Header}
use Rattle.dj_names.specs.declared.members.MethodHead.{MethodHead}
use Rattle.dj_names.specs.declared.members.ClassMembers.{ClassMembers}
use Rattle.dj_names.specs.declared.members.Member.{Member}
use Rattle.dj_names.specs.Headers.{Name}
use Rattle.dj_names.specs.Types.{JType, Descriptor}
use Rattle.dj_kinds.specs.Search.{method_order, field_order, IsFirstIn}
use Rattle.dj_kinds.specs.Own.{HasOwnField, IsFirstOf, HasOwnMethod}

-- the first method in the order of search, by what picks one among the methods of a class that are seen
abbrev pub IsFoundBy : ((MethodHead → Type 0) → List MethodHead → ℕ → Type 0) → List Header → List ClassMembers → Name → Name → Member → Type 0
IsFoundBy Picks headers members class name = IsFirstIn (HasOwnMethod headers members Picks class) (method_order headers name class)

-- the method of this name and descriptor that is found from a class
abbrev pub IsFoundMethod : List Header → List ClassMembers → Name → Name → Descriptor → Member → Type 0
IsFoundMethod headers members class name descriptor = IsFoundBy (IsFirstOf name descriptor) headers members class name

-- the field of this name and type that is found from a class
abbrev pub IsFoundField : List Header → List ClassMembers → Name → Name → JType → Member → Type 0
IsFoundField headers members class name type = IsFirstIn (HasOwnField headers members name type) (field_order headers class)
