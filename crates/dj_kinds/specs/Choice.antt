-- The method that a call means (JLS 15.12.2): a statement about sets of members.
use Rattle.std.specs.Prelude.{◌≡◌, List, [], ◌∷◌, Option, Some, None, true, IsSomeAnd, slice_get}
use Rattle.dj_names.specs.declared.header.Header.{Header}
use Rattle.dj_names.specs.declared.members.MethodHead.{MethodHead}
use Rattle.dj_names.specs.declared.members.ClassMembers.{ClassMembers}
use Rattle.dj_names.specs.declared.members.Member.{Member}
use Rattle.dj_names.specs.Headers.{Name, names}
use Rattle.dj_names.specs.Types.{JType, Boolean, Byte, Char, Short, Int, Long, Float, Double, Class, Array, StaticType, view_descriptor, parameters_of}
use Rattle.dj_names.specs.Assignable.{object_name, IsSubtype, IsAssignable}
use Rattle.dj_kinds.specs.Own.{Counts}
use Rattle.dj_kinds.specs.Found.{IsFoundBy}
use Rattle.dj_kinds.specs.Access.{IsAccessible}
use Rattle.dj_kinds.specs.Inherited.{IsInherited}

-- the class in which the methods of a type are searched for; an array has those of Object (JLS 10.7)
abbrev pub searched_class : JType → Option Name
searched_class Boolean = None
searched_class Byte = None
searched_class Char = None
searched_class Short = None
searched_class Int = None
searched_class Long = None
searched_class Float = None
searched_class Double = None
searched_class (Class name) = Some name
searched_class (Array element) = Some object_name

-- as many of both, and each goes where its partner is wanted
abbrev pub AllAssignable : List Header → List StaticType → List JType → Type 0
AllAssignable headers [] [] = Unit {0}
AllAssignable headers [] (to ∷ tos) = ⊥
AllAssignable headers (from ∷ froms) [] = ⊥
AllAssignable headers (from ∷ froms) (to ∷ tos) = IsAssignable headers from to × AllAssignable headers froms tos

-- as many of both, and each is a subtype of its partner
abbrev pub AllSubtypes : List Header → List JType → List JType → Type 0
AllSubtypes headers [] [] = Unit {0}
AllSubtypes headers [] (to ∷ tos) = ⊥
AllSubtypes headers (from ∷ froms) [] = ⊥
AllSubtypes headers (from ∷ froms) (to ∷ tos) = IsSubtype headers from to × AllSubtypes headers froms tos

-- the parameter types of a method
abbrev pub parameters : MethodHead → List JType
parameters method = parameters_of (view_descriptor method.descriptor)

-- the member is this method
pub record IsMethodAt (members : List ClassMembers) (member : Member) (method : MethodHead) : Type 0 where
  pub declared : ClassMembers
  pub class : slice_get members member.class ≡ Some declared
  pub is_method : member.method ≡ true
  pub number : slice_get declared.methods member.number ≡ Some method

-- what a call is made with: the class where it stands, the one in which the method is searched for, the type of the receiver
-- (none for `super` and static methods), the method's name and the types of the arguments
pub record Call : Type 0 where
  pub from : Name
  pub class : Name
  pub through : Option JType
  pub name : Name
  pub arguments : List StaticType

-- of the methods of its name and parameters the member is the first in the order of search: so one that is overridden isn't meant,
-- and of equal ones one alone (a rule of our own, where 8.4.8 and 15.12.2.5 speak of methods that override and of equal signatures)
abbrev pub IsHeld : List Header → List ClassMembers → Name → Member → MethodHead → Type 0
IsHeld headers members class member method = IsFoundBy (Counts method.name (parameters method)) headers members class method.name member

-- the call could mean the member: it has the name, takes the arguments as they are, is a member of the class in which it is searched for,
-- and may be used (8.2, 15.12.2.1, 15.12.2.2)
pub record IsCandidate (headers : List Header) (members : List ClassMembers) (call : Call) (member : Member) : Type 0 where
  pub method : MethodHead
  pub is_method : IsMethodAt members member method
  pub named : method.name ≡ call.name
  pub applicable : AllAssignable headers call.arguments (parameters method)
  pub held : IsHeld headers members call.class member method
  pub inherited : IsSomeAnd (slice_get (names headers) member.class) (λ owner. IsInherited headers call.class owner method.flags)
  pub accessible : IsAccessible headers members call.from member call.through

-- what the one takes the other takes too (15.12.2.5)
pub record IsMoreSpecific (headers : List Header) (members : List ClassMembers) (first second : Member) : Type 0 where
  pub subtypes : (one other : MethodHead) → IsMethodAt members first one → IsMethodAt members second other → AllSubtypes headers (parameters one) (parameters other)

-- a candidate that is more specific than each
pub record IsMostSpecific (headers : List Header) (members : List ClassMembers) (call : Call) (member : Member) : Type 0 where
  pub candidate : IsCandidate headers members call member
  pub specific : (other : Member) → IsCandidate headers members call other → IsMoreSpecific headers members member other

-- the only one that is
pub record IsChosen (headers : List Header) (members : List ClassMembers) (call : Call) (member : Member) : Type 0 where
  pub most : IsMostSpecific headers members call member
  pub only : (other : Member) → IsMostSpecific headers members call other → other ≡ member

-- the only one that is, for a receiver of a type; no method is searched for in a type that is no reference
abbrev pub IsChosenIn : List Header → List ClassMembers → Name → JType → Option JType → Name → List StaticType → Member → Type 0
IsChosenIn headers members from receiver through name arguments member =
    IsSomeAnd (searched_class receiver)
    (λ class. IsChosen headers members (record { from = from; class = class; through = through; name = name; arguments = arguments }) member)
