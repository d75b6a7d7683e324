-- The classes that the throws clause of the method lists that a call means (JLS 8.4.6, 8.8.5, 11.2.1). A call that means no method lists none,
-- nor does one with an argument that has no type.
use Rattle.std.specs.Prelude.{Bool, not, ◌&&◌, ◌==◌, List, [], Option, Some, None, option_and_then, slice_get, find, length, codes, if◌then◌else◌}
use Rattle.dj_names.specs.declared.header.Header.{Header}
use Rattle.dj_names.specs.declared.members.ClassMembers.{ClassMembers}
use Rattle.dj_names.specs.declared.members.MethodHead.{MethodHead}
use Rattle.dj_names.specs.Headers.{Name}
use Rattle.dj_names.specs.Types.{JType, Class, StaticType, view_descriptor}
use Rattle.dj_values.specs.Deciding.{is_name, is_type, is_array}
use Rattle.dj_kinds.specs.Search.{header_of, superclass_in}
use Rattle.dj_kinds.specs.Own.{is_false_constructor}
use Rattle.dj_meaning.specs.Members.{Method, view_method, parameters}
use Rattle.dj_meaning.specs.Calls.{MethodIn, all_pairs}
use Rattle.dj_static.specs.Walks.{place_of}
use Rattle.dj_static.specs.Targets.{meant_in}
use Rattle.dj_thrown.specs.Settings.{Setting}

-- ---- throws clauses

-- the methods among members, none where there is no such class
abbrev pub methods_in : Option ClassMembers → List MethodHead
methods_in None = []
methods_in (Some declared) = declared.methods

-- the methods that the class of this name declares, whose members stand at its header's place
abbrev pub methods_of : List Header → List ClassMembers → Name → List MethodHead
methods_of headers members class = methods_in (option_and_then (λ at. slice_get members at) (place_of headers class))

-- it is this method by its flags, its name and its parameters; a constructor has no result besides
abbrev pub is_method : Method → MethodHead → Bool
is_method method head =
    (head.flags == method.flags) && (is_name head.name method.name && all_pairs is_type (parameters (view_method head)) (parameters method))
    && not (is_false_constructor head.name (view_descriptor head.descriptor))

-- what the throws clause of a method lists
abbrev pub clause_of : Option MethodHead → List Name
clause_of None = []
clause_of (Some head) = head.thrown

-- what that of the method lists that a call means: of the first in its class that is this method
abbrev pub listed_by : Setting → Option MethodIn → List Name
listed_by setting None = []
listed_by setting (Some one) = clause_of (find (is_method one.method) (methods_of setting.headers setting.members one.owner))

-- ---- calls

-- `clone` of an array throws nothing that is checked (10.7)
abbrev pub is_clone : JType → Name → List StaticType → Bool
is_clone type name arguments = is_array type && (is_name name (codes "clone") && (length arguments == 0))

-- a call of a method of an object of this type
abbrev pub object_listed : Setting → Name → Option JType → Option (List StaticType) → List Name
object_listed setting name object None = []
object_listed setting name None (Some arguments) = []
object_listed setting name (Some type) (Some arguments) =
    if is_clone type name arguments then [] else listed_by setting (meant_in setting.headers setting.members setting.class type (Some type) name arguments)

-- a call of a method of a class that is named
abbrev pub class_listed : Setting → Name → Name → Option (List StaticType) → List Name
class_listed setting class name None = []
class_listed setting class name (Some arguments) = listed_by setting (meant_in setting.headers setting.members setting.class (Class class) None name arguments)

-- the same in a class that there may be
abbrev pub above_listed : Setting → Option Name → Name → Option (List StaticType) → List Name
above_listed setting None name arguments = []
above_listed setting (Some class) name arguments = class_listed setting class name arguments

-- the superclass
abbrev pub superclass : Setting → Option Name
superclass setting = superclass_in (header_of setting.headers setting.class)

-- a call behind `super`: of the superclass, or of an interface that is named
abbrev pub super_listed : Setting → Option Name → Name → Option (List StaticType) → List Name
super_listed setting None name arguments = above_listed setting (superclass setting) name arguments
super_listed setting (Some interface) name arguments = class_listed setting interface name arguments

-- the constructor of a new object
abbrev pub new_listed : Setting → Name → Option (List StaticType) → List Name
new_listed setting class None = []
new_listed setting class (Some arguments) = listed_by setting (meant_in setting.headers setting.members setting.class (Class class) (Some (Class class)) (codes "<init>") arguments)

-- another constructor of this class, or one of the superclass
abbrev pub construct_listed : Setting → Bool → Option (List StaticType) → List Name
construct_listed setting own arguments = if own then class_listed setting setting.class (codes "<init>") arguments else above_listed setting (superclass setting) (codes "<init>") arguments
