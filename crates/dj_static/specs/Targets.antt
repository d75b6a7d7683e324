-- How chosen methods and what is asked for are seen as those of the definition.
use Rattle.std.specs.Prelude.{◌≡◌, List, map, Option, Some, None, slice_get, option_and_then, codes, if◌then◌else◌}
use Rattle.dj_names.specs.declared.header.Header.{Header}
use Rattle.dj_names.specs.declared.members.ClassMembers.{ClassMembers}
use Rattle.dj_names.specs.declared.members.Member.{Member}
use Rattle.dj_names.specs.declared.members.MethodHead.{MethodHead}
use Rattle.dj_names.specs.Headers.{Name, names}
use Rattle.dj_names.specs.Types.{JType, Class, StaticType, view_type, view_descriptor}
use Rattle.dj_kinds.specs.Choice.{searched_class, IsMethodAt}
use Rattle.dj_values.specs.Values.{Special}
use Rattle.dj_values.specs.Views.{view_kind}
use Rattle.dj_meaning.specs.Members.{view_method, view_members, is_of_class}
use Rattle.dj_meaning.specs.Calls.{MethodIn, chosen}
use Rattle.dj_meaning.specs.Targets.{Target, target}
use Rattle.dj_static.specs.declared.targets.ChosenMethod as code_chosen
use Rattle.dj_static.specs.declared.targets.Target as code_target

-- a method, and the class that declares it
abbrev pub view_chosen : code_chosen.ChosenMethod → MethodIn
view_chosen one = record { owner = one.owner.now; method = view_method one.method.now }

-- what a call asks for
abbrev pub view_target : code_target.Target → Target
view_target one = record { kind = view_kind one.kind; owner = view_type one.owner; name = one.name; descriptor = view_descriptor one.descriptor }

-- the method that a call means in a class
abbrev pub meant : List Header → List ClassMembers → Name → Option JType → Name → List StaticType → Name → Option MethodIn
meant headers members from through name arguments class =
    chosen headers (map view_members members) (record { from = from; class = class; through = through; name = name; arguments = arguments })

-- the method that a call means in the class in which the methods of a type are searched for
abbrev pub meant_in : List Header → List ClassMembers → Name → JType → Option JType → Name → List StaticType → Option MethodIn
meant_in headers members from receiver through name arguments = option_and_then (meant headers members from through name arguments) (searched_class receiver)

-- the member is this method of this class
pub record IsMethodIn (headers : List Header) (members : List ClassMembers) (member : Member) (owner : Name) (method : MethodHead) : Type 0 where
  pub named : slice_get (names headers) member.class ≡ Some owner
  pub at : IsMethodAt members member method

-- a constructor of a class, which isn't static
abbrev pub constructor_of : List Header → List ClassMembers → Name → Option JType → List StaticType → Name → Option Target
constructor_of headers members from through arguments class =
    option_and_then (λ (one : MethodIn). if is_of_class one.method.flags then None else Some (target (Class class) one Special)) (meant headers members from through (codes "<init>") arguments class)
