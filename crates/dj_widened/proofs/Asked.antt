-- What is asked for by calls: some method that is chosen, whose parameters take the arguments.
use Rattle.std.proofs.Common.{◌≡◌, ◌&&◌, Bool, true, false, if◌then◌else◌, List, [], ◌∷◌, codes, Option, Some, None, option_and_then, refl, sym, ap, subst, ◌∙◌}
use Rattle.dj_names.specs.declared.header.Header.{Header}
use Rattle.dj_names.specs.Headers.{Name, HasParent, IsPath}
use Rattle.dj_names.specs.Types.{JType, Class, Array, StaticType, parameters_of}
use Rattle.dj_names.specs.Assignable.{object_name}
use Rattle.dj_kinds.specs.Search.{header_of, superclass_in, method_order}
use Rattle.dj_kinds.specs.Choice.{Call, searched_class}
use Rattle.dj_values.specs.Values.{InvokeKind, Special, Static}
use Rattle.dj_values.specs.Deciding.{is_name}
use Rattle.dj_meaning.specs.Members.{Method, Members, is_of_class}
use Rattle.dj_meaning.specs.Visible.{members_of, methods_in}
use Rattle.dj_meaning.specs.Calls.{MethodIn, all_pairs, is_assignable, is_seen, chosen}
use Rattle.dj_meaning.specs.Targets.{Target, target, object_kind, by_flags, of_object, of_class, of_super, of_new, of_construct}
use Rattle.dj_widened.specs.Widens.{Widens}
use Rattle.dj_widened.proofs.Paths.{In, parent_up}
use Rattle.dj_widened.proofs.Orders.{order_above}
use Rattle.dj_widened.proofs.Choice.{in_filter, chosen_found}
use Rattle.dj_widened.proofs.Targets.{object_whole}

-- some method that a call means is asked for, of this owner, with its name and descriptor
pub record IsAsked (world : List Header) (members : List Members) (owner : JType) (arguments : List StaticType) (asked : Target) : Type 0 where
  pub call : Call
  pub one : MethodIn
  pub given : call.arguments ≡ arguments
  pub is : chosen world members call ≡ Some one
  pub owner_is : asked.owner ≡ owner
  pub name : asked.name ≡ one.method.name
  pub descriptor : asked.descriptor ≡ one.method.descriptor

-- it takes the arguments
pub asked_takes : {world : List Header} {members : List Members} {owner : JType} {arguments : List StaticType} {asked : Target} → IsAsked world members owner arguments asked
    → all_pairs (is_assignable world) arguments (parameters_of asked.descriptor) ≡ true
asked_takes {world = world} {members = members} {asked = asked} is =
    subst (λ types. all_pairs (is_assignable world) types (parameters_of asked.descriptor) ≡ true) is.given
    (subst (λ descriptor. all_pairs (is_assignable world) is.call.arguments (parameters_of descriptor) ≡ true) (sym is.descriptor) (chosen_found world members is.call is.one is.is).takes)

-- what is made of what is there comes of it
pub then_from : {A B : Type 0} (give : A → Option B) (one : Option A) (result : B) → option_and_then give one ≡ Some result → (x : A) × (one ≡ Some x) × (give x ≡ Some result)
then_from give None result is = absurd cc
then_from give (Some x) result is = (x, refl, is)

same_target : (first second : Target) → Some first ≡ Some second → first ≡ second
same_target first second same = cc

module _ (world : List Header) (members : List Members) (from : Name) (arguments : List StaticType) where
  abbrev in_class : Name → Option JType → Name → Call
  in_class name through class = record { from = from; class = class; through = through; name = name; arguments = arguments }

  made_asked : (owner : JType) (one : MethodIn) (kind : InvokeKind) (call : Call) (asked : Target) → call.arguments ≡ arguments → chosen world members call ≡ Some one → target owner one kind ≡ asked
      → IsAsked world members owner arguments asked
  made_asked owner one kind call asked given is made = record {
    call = call;
    one = one;
    given = given;
    is = is;
    owner_is = ap (λ (made : Target). made.owner) (sym made);
    name = ap (λ (made : Target). made.name) (sym made);
    descriptor = ap (λ (made : Target). made.descriptor) (sym made);
  }

  flags_asked : (owner : JType) (one : MethodIn) (kind : Option InvokeKind) (call : Call) (asked : Target) → call.arguments ≡ arguments → chosen world members call ≡ Some one
      → option_and_then (λ kind. Some (target owner one kind)) kind ≡ Some asked → IsAsked world members owner arguments asked
  flags_asked owner one None call asked given is made = absurd cc
  flags_asked owner one (Some kind) call asked given is made = made_asked owner one kind call asked given is (same_target (target owner one kind) asked made)

  -- by an object: the class that is searched is that of the object's type
  pub record IsAskedOf (name : Name) (type : JType) (asked : Target) : Type 0 where
    pub made : IsAsked world members type arguments asked
    pub class : Name
    pub searched : searched_class type ≡ Some class
    pub call : made.call ≡ in_class name (Some type) class

  pub object_asked : (name : Name) (type : JType) (asked : Target) → of_object world members from name arguments type ≡ Some asked → IsAskedOf name type asked
  unfolding made_asked
  object_asked name type asked is =
      let found = then_from (λ one. option_and_then (λ kind. Some (target type one kind)) (by_flags world one (object_kind world type one)))
      (option_and_then (λ class. chosen world members (in_class name (Some type) class)) (searched_class type)) asked is in
      let searched = then_from (λ class. chosen world members (in_class name (Some type) class)) (searched_class type) found.0 found.1 in
      let made = then_from (λ kind. Some (target type found.0 kind)) (by_flags world found.0 (object_kind world type found.0)) asked found.2 in
      record {
        made = made_asked type found.0 made.0 (in_class name (Some type) searched.0) asked refl searched.2 (same_target (target type found.0 made.0) asked made.2);
        class = searched.0;
        searched = searched.1;
        call = refl;
      }

  static_by : (class : Name) (one : MethodIn) (call : Call) (asked : Target) (b : Bool) → call.arguments ≡ arguments → chosen world members call ≡ Some one
      → (if b then Some (target (Class class) one Static) else None) ≡ Some asked → IsAsked world members (Class class) arguments asked × (asked.kind ≡ Static)
  static_by class one call asked true given is made =
      let same = same_target (target (Class class) one Static) asked made in
      (made_asked (Class class) one Static call asked given is same, ap (λ (made : Target). made.kind) (sym same))
  static_by class one call asked false given is made = absurd cc

  pub class_asked : (class name : Name) (asked : Target) → of_class world members from class name arguments ≡ Some asked → IsAsked world members (Class class) arguments asked × (asked.kind ≡ Static)
  class_asked class name asked is =
      let found = then_from (λ (one : MethodIn). if is_of_class one.method.flags then Some (target (Class class) one Static) else None) (chosen world members (in_class name None class)) asked is in
      static_by class found.0 (in_class name None class) asked (is_of_class found.0.method.flags) refl found.1 found.2

  above_asked : (above name : Name) (asked : Target) → option_and_then (λ one. option_and_then (λ kind. Some (target (Class above) one kind)) (by_flags world one Special)) (chosen world members (in_class name None above)) ≡ Some asked
      → IsAsked world members (Class above) arguments asked
  above_asked above name asked is =
      let found = then_from (λ one. option_and_then (λ kind. Some (target (Class above) one kind)) (by_flags world one Special)) (chosen world members (in_class name None above)) asked is in
      flags_asked (Class above) found.0 (by_flags world found.0 Special) (in_class name None above) asked refl found.1 found.2

  pub super_asked : (named : Option Name) (name : Name) (asked : Target) → of_super world members from named name arguments ≡ Some asked → (above : Name) × IsAsked world members (Class above) arguments asked
  super_asked None name asked is =
      let found = then_from (λ above. option_and_then (λ one. option_and_then (λ kind. Some (target (Class above) one kind)) (by_flags world one Special)) (chosen world members (in_class name None above)))
      (superclass_in (header_of world from)) asked is in
      (found.0, above_asked found.0 name asked found.2)
  super_asked (Some interface) name asked is = (interface, above_asked interface name asked is)

  constructor_by : (class : Name) (one : MethodIn) (call : Call) (asked : Target) (b : Bool) → call.arguments ≡ arguments → chosen world members call ≡ Some one
      → (if b then None else Some (target (Class class) one Special)) ≡ Some asked → IsAsked world members (Class class) arguments asked
  constructor_by class one call asked true given is made = absurd cc
  constructor_by class one call asked false given is made = made_asked (Class class) one Special call asked given is (same_target (target (Class class) one Special) asked made)

  constructor_asked : (through : Option JType) (class : Name) (asked : Target)
      → option_and_then (λ (one : MethodIn). if is_of_class one.method.flags then None else Some (target (Class class) one Special)) (chosen world members (in_class (codes "<init>") through class)) ≡ Some asked
      → IsAsked world members (Class class) arguments asked
  constructor_asked through class asked is =
      let found = then_from (λ (one : MethodIn). if is_of_class one.method.flags then None else Some (target (Class class) one Special)) (chosen world members (in_class (codes "<init>") through class)) asked is in
      constructor_by class found.0 (in_class (codes "<init>") through class) asked (is_of_class found.0.method.flags) refl found.1 found.2

  pub new_asked : (class : Name) (asked : Target) → of_new world members from class arguments ≡ Some asked → IsAsked world members (Class class) arguments asked
  new_asked class asked = constructor_asked (Some (Class class)) class asked

  pub construct_asked : (own : Bool) (asked : Target) → of_construct world members from own arguments ≡ Some asked → (class : Name) × IsAsked world members (Class class) arguments asked
  construct_asked true asked is = (from, constructor_asked None from asked is)
  construct_asked false asked is =
      let found = then_from (λ class. option_and_then (λ (one : MethodIn). if is_of_class one.method.flags then None else Some (target (Class class) one Special)) (chosen world members (in_class (codes "<init>") None class)))
      (superclass_in (header_of world from)) asked is in
      (found.0, constructor_asked None found.0 asked found.2)

-- a method that is asked of an array is one of Object
pub record IsOfObject (world : List Header) (members : List Members) (asked : Target) : Type 0 where
  pub method : Method
  pub there : In method (methods_in (members_of world members object_name))
  pub name : asked.name ≡ method.name
  pub descriptor : asked.descriptor ≡ method.descriptor

module _ (world headers : List Header) (wide : Widens world headers) where
  only_object : (owner : Name) (path : List Name) → IsPath (HasParent world) object_name path owner → object_name ≡ owner
  only_object owner [] same = same
  only_object owner (next ∷ path) (step, rest) = absurd (wide.roots.object next (parent_up world headers wide object_name next step))

  pub array_asked : (members : List Members) (from : Name) (arguments : List StaticType) (name : Name) (element : JType) (asked : Target) → IsAskedOf world members from arguments name (Array element) asked → IsOfObject world members asked
  array_asked members from arguments name element asked is =
      let class_is : object_name ≡ is.class = (let e : Some object_name ≡ Some is.class = is.searched in cc) in
      let found = chosen_found world members is.made.call is.made.one is.made.is in
      let object_is : is.made.call.class ≡ object_name = ap (λ (call : Call). call.class) is.call ∙ sym class_is in
      let above = order_above world is.made.call.name object_name (object_whole world headers wide) is.made.one.owner (subst (λ class. In is.made.one.owner (method_order world is.made.call.name class)) object_is found.owner) in
      let owner_is = only_object is.made.one.owner above.path above.is_path in
      record {
        method = is.made.one.method;
        there =
            subst (λ owner. In is.made.one.method (methods_in (members_of world members owner))) (sym owner_is)
            (in_filter (λ (method : Method). is_name method.name is.made.call.name && is_seen world is.made.call.class is.made.one.owner method) (methods_in (members_of world members is.made.one.owner)) is.made.one.method found.method).1;
        name = is.made.name;
        descriptor = is.made.descriptor;
      }
