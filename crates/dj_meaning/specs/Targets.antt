-- What a call asks for: how the method is found, where, its name and its descriptor (JLS 15.9.3, 15.12.3, 15.12.4.3).
use Rattle.std.specs.Prelude.{Bool, true, false, not, List, Option, Some, None, option_and_then, codes, if◌then◌else◌}
use Rattle.dj_names.specs.declared.header.Header.{Header}
use Rattle.dj_names.specs.Headers.{Name}
use Rattle.dj_names.specs.Types.{JType, Class, Descriptor, StaticType, parameters_of, result_of}
use Rattle.dj_values.specs.Values.{InvokeKind, Virtual, Interface, Static, Special}
use Rattle.dj_values.specs.Fits.{class_of}
use Rattle.dj_values.specs.Deciding.{is_array_clone, is_some_and, is_interface}
use Rattle.dj_kinds.specs.Search.{header_of, superclass_in}
use Rattle.dj_kinds.specs.Choice.{searched_class}
use Rattle.dj_meaning.specs.Members.{Members, is_private, is_of_class}
use Rattle.dj_meaning.specs.Calls.{MethodIn, chosen}

-- what a call asks for; the owner is the receiver's type, the class that is named, or the one behind `super`, also where 13.1 would have Object
pub record Target : Type 0 where
  pub kind : InvokeKind
  pub owner : JType
  pub name : Name
  pub descriptor : Descriptor

-- a chosen method, asked for so
abbrev pub target : JType → MethodIn → InvokeKind → Target
target owner one kind = record { kind = kind; owner = owner; name = one.method.name; descriptor = one.method.descriptor }

-- what a call of a target gives: `clone` of an array has the array's type (10.7)
abbrev pub result : Target → Option JType
result one = if is_array_clone one.owner one.name (parameters_of one.descriptor) then Some one.owner else result_of one.descriptor

-- the kind by which an object's method is called that isn't static: a private one is its class's own (15.12.4.4)
abbrev pub object_kind : List Header → JType → MethodIn → InvokeKind
object_kind headers type one =
    if is_private one.method.flags then Special
    else if is_some_and (class_of type) (is_interface headers) then Interface
    else Virtual

-- a static method may be called by another way than its class; one of an interface may not (15.12.3)
abbrev pub by_flags : List Header → MethodIn → InvokeKind → Option InvokeKind
by_flags headers one otherwise =
    if not (is_of_class one.method.flags) then Some otherwise else if is_interface headers one.owner then None else Some Static

module _ (headers : List Header) (members : List Members) (from : Name) where
  -- the method that a call means in a class
  abbrev meant : Option JType → Name → List StaticType → Name → Option MethodIn
  meant through name arguments class = chosen headers members (record { from = from; class = class; through = through; name = name; arguments = arguments })

  -- a method of an expression of this type
  abbrev pub of_object : Name → List StaticType → JType → Option Target
  of_object name arguments type =
      option_and_then (λ one. option_and_then (λ kind. Some (target type one kind)) (by_flags headers one (object_kind headers type one)))
      (option_and_then (meant (Some type) name arguments) (searched_class type))

  -- a static method of a class that is named
  abbrev pub of_class : Name → Name → List StaticType → Option Target
  of_class class name arguments =
      option_and_then (λ (one : MethodIn). if is_of_class one.method.flags then Some (target (Class class) one Static) else None) (meant None name arguments class)

  -- a method behind `super`: of the superclass, or of an interface that is named
  abbrev pub of_super : Option Name → Name → List StaticType → Option Target
  of_super named name arguments =
      option_and_then (λ above. option_and_then (λ one. option_and_then (λ kind. Some (target (Class above) one kind)) (by_flags headers one Special)) (meant None name arguments above))
      (where_named named)
    where
      where_named : Option Name → Option Name
      where_named None = superclass_in (header_of headers from)
      where_named (Some interface) = Some interface

  -- a constructor, which is its class's own
  abbrev constructor : Option JType → List StaticType → Name → Option Target
  constructor through arguments class =
      option_and_then (λ (one : MethodIn). if is_of_class one.method.flags then None else Some (target (Class class) one Special)) (meant through (codes "<init>") arguments class)

  -- the constructor of a new object
  abbrev pub of_new : Name → List StaticType → Option Target
  of_new class arguments = constructor (Some (Class class)) arguments class

  -- another constructor of this class, or one of the superclass (8.8.7.1)
  abbrev pub of_construct : Bool → List StaticType → Option Target
  of_construct true arguments = constructor None arguments from
  of_construct false arguments = option_and_then (constructor None arguments) (superclass_in (header_of headers from))
