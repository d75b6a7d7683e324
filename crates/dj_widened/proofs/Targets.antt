-- What calls ask for from classes and types that a world has whole they ask for where other classes run beside its own.
use Rattle.std.proofs.Common.{◌≡◌, ◌≤◌, Bool, true, false, not, if◌then◌else◌, length, List, [], ◌∷◌, codes, Contains, Option, Some, None, option_and_then, refl, sym, ap, subst, ◌∙◌, inl, inr}
use Rattle.dj_names.specs.declared.header.Header.{Header}
use Rattle.dj_names.specs.Headers.{Name, names, HasParent, IsPath}
use Rattle.dj_names.specs.Types.{JType, Boolean, Byte, Char, Short, Int, Long, Float, Double, Class, Array, StaticType}
use Rattle.dj_names.specs.Assignable.{object_name}
use Rattle.dj_kinds.specs.Search.{header_of, superclass_in}
use Rattle.dj_kinds.specs.Choice.{Call, searched_class}
use Rattle.dj_values.specs.Fits.{class_of}
use Rattle.dj_values.specs.Values.{InvokeKind, Special, Static, Interface, Virtual}
use Rattle.dj_values.specs.Deciding.{is_some_and, is_interface}
use Rattle.dj_meaning.specs.Members.{Members, is_private, is_of_class}
use Rattle.dj_meaning.specs.Calls.{MethodIn, chosen}
use Rattle.dj_meaning.specs.Targets.{Target, target, object_kind, by_flags, of_object, of_class, of_super, of_new, of_construct}
use Rattle.dj_typing.specs.Sites.{is_whole, is_whole_type}
use Rattle.dj_widened.specs.Widens.{Widens}
use Rattle.dj_widened.specs.Meant.{AreAllWhole}
use Rattle.dj_widened.proofs.Paths.{In, whole_above, above_parent, in_contained, HasHeader, IsWhole, whole_from_test, above_itself, interface_same, parent_up}
use Rattle.dj_widened.proofs.Orders.{superclass_step, superclass_same}
use Rattle.dj_widened.proofs.Choice.{chosen_found, found_header, chosen_kept}

-- what is made of what is there stays, where its parts do
pub then_kept : {A B : Type 0} (first second : A → Option B) (one other : Option A) (result : B) → ((x : A) → one ≡ Some x → other ≡ Some x) → ((x : A) → one ≡ Some x → first x ≡ Some result → second x ≡ Some result)
    → option_and_then first one ≡ Some result → option_and_then second other ≡ Some result
then_kept first second None other result keeps gives is = absurd cc
then_kept first second (Some x) other result keeps gives is = ap (option_and_then second) (keeps x refl) ∙ gives x refl is

module _ (world headers : List Header) (wide : Widens world headers) where
  name_header : (class : Name) → Contains (names world) class → HasHeader world class
  name_header class there = go world (in_contained (names world) class there)
    where
      go : (all : List Header) → In class (names all) → HasHeader all class
      go [] none = absurd none
      go (header ∷ all) (inl is) = (header, inl refl, sym is)
      go (header ∷ all) (inr later) = let found = go all later in (found.0, inr found.1, found.2)

  -- Object is whole: nothing stands above it
  pub object_whole : IsWhole world object_name
  object_whole upper above = by above.path above.is_path
    where
      by : (path : List Name) → IsPath (HasParent world) object_name path upper → HasHeader world upper
      by [] same = subst (HasHeader world) same (name_header object_name wide.object)
      by (next ∷ path) (step, rest) = absurd (wide.roots.object next (parent_up world headers wide object_name next step))

  module _ (members : List Members) (paired : length members ≤ length world) (from : Name) (arguments : List StaticType) (from_whole : IsWhole world from) (arguments_whole : AreAllWhole world arguments) where
    flags_same : (call : Call) (one : MethodIn) (otherwise : InvokeKind) → chosen world members call ≡ Some one → by_flags headers one otherwise ≡ by_flags world one otherwise
    flags_same call one otherwise is =
        ap (λ interface. if not (is_of_class one.method.flags) then Some otherwise else if interface then None else Some Static)
        (interface_same world headers wide one.owner (found_header world members call one (chosen_found world members call one is)))

    kind_same : (type : JType) (one : MethodIn) → is_whole_type world type ≡ true → object_kind headers type one ≡ object_kind world type one
    kind_same type one whole = ap (λ interface. if is_private one.method.flags then Special else if interface then Interface else Virtual) (by type whole)
      where
        by : (type : JType) → is_whole_type world type ≡ true → is_some_and (class_of type) (is_interface headers) ≡ is_some_and (class_of type) (is_interface world)
        by Boolean whole = refl
        by Byte whole = refl
        by Char whole = refl
        by Short whole = refl
        by Int whole = refl
        by Long whole = refl
        by Float whole = refl
        by Double whole = refl
        by (Class name) whole = interface_same world headers wide name (whole_from_test world name whole name (above_itself world name))
        by (Array element) whole = refl

    searched_whole : (type : JType) (class : Name) → is_whole_type world type ≡ true → searched_class type ≡ Some class → IsWhole world class
    searched_whole Boolean class whole is = absurd cc
    searched_whole Byte class whole is = absurd cc
    searched_whole Char class whole is = absurd cc
    searched_whole Short class whole is = absurd cc
    searched_whole Int class whole is = absurd cc
    searched_whole Long class whole is = absurd cc
    searched_whole Float class whole is = absurd cc
    searched_whole Double class whole is = absurd cc
    searched_whole (Class name) class whole is = subst (IsWhole world) (let same : name ≡ class = cc in same) (whole_from_test world name whole)
    searched_whole (Array element) class whole is = subst (IsWhole world) (let same : object_name ≡ class = cc in same) object_whole

    pub object_kept : (name : Name) (type : JType) (asked : Target) → is_whole_type world type ≡ true → of_object world members from name arguments type ≡ Some asked → of_object headers members from name arguments type ≡ Some asked
    object_kept name type asked whole =
        then_kept (λ one. option_and_then (λ kind. Some (target type one kind)) (by_flags world one (object_kind world type one)))
        (λ one. option_and_then (λ kind. Some (target type one kind)) (by_flags headers one (object_kind headers type one)))
        (option_and_then (λ class. chosen world members (call class)) (searched_class type)) (option_and_then (λ class. chosen headers members (call class)) (searched_class type)) asked
        (λ one found. then_kept (λ class. chosen world members (call class)) (λ class. chosen headers members (call class)) (searched_class type) (searched_class type) one (λ class is. is)
        (λ class is. chosen_kept world headers wide members paired (call class) from_whole (searched_whole type class whole is) whole arguments_whole one) found)
        (λ one found gives. by_class one (searched_class type) found gives)
      where
        call : Name → Call
        call class = record { from = from; class = class; through = Some type; name = name; arguments = arguments }

        by_class : (one : MethodIn) (class : Option Name) → option_and_then (λ class. chosen world members (call class)) class ≡ Some one
            → option_and_then (λ kind. Some (target type one kind)) (by_flags world one (object_kind world type one)) ≡ Some asked
            → option_and_then (λ kind. Some (target type one kind)) (by_flags headers one (object_kind headers type one)) ≡ Some asked
        by_class one None found gives = absurd cc
        by_class one (Some class) found gives =
            ap (option_and_then (λ kind. Some (target type one kind))) (ap (by_flags headers one) (kind_same type one whole) ∙ flags_same (call class) one (object_kind world type one) found) ∙ gives

    pub class_kept : (class name : Name) (asked : Target) → IsWhole world class → of_class world members from class name arguments ≡ Some asked → of_class headers members from class name arguments ≡ Some asked
    class_kept class name asked whole =
        then_kept (λ (one : MethodIn). if is_of_class one.method.flags then Some (target (Class class) one Static) else None) (λ (one : MethodIn). if is_of_class one.method.flags then Some (target (Class class) one Static) else None)
        (chosen world members call) (chosen headers members call) asked (λ one. chosen_kept world headers wide members paired call from_whole whole tt arguments_whole one) (λ one found gives. gives)
      where
        call : Call
        call = record { from = from; class = class; through = None; name = name; arguments = arguments }

    pub new_kept : (class : Name) (asked : Target) → is_whole world class ≡ true → of_new world members from class arguments ≡ Some asked → of_new headers members from class arguments ≡ Some asked
    new_kept class asked whole =
        then_kept (λ (one : MethodIn). if is_of_class one.method.flags then None else Some (target (Class class) one Special)) (λ (one : MethodIn). if is_of_class one.method.flags then None else Some (target (Class class) one Special))
        (chosen world members call) (chosen headers members call) asked (λ one. chosen_kept world headers wide members paired call from_whole (whole_from_test world class whole) whole arguments_whole one) (λ one found gives. gives)
      where
        call : Call
        call = record { from = from; class = class; through = Some (Class class); name = codes "<init>"; arguments = arguments }

    above_whole : (above : Name) → superclass_in (header_of world from) ≡ Some above → IsWhole world above
    above_whole above is = whole_above from_whole (above_parent (superclass_step world from above (from_whole from (above_itself world from)) is))

    abbrev super_of : (above name : Name) → Call
    super_of above name = record { from = from; class = above; through = None; name = name; arguments = arguments }

    abbrev in_above : Name → List Header → Name → Option Target
    in_above name h above = option_and_then (λ one. option_and_then (λ kind. Some (target (Class above) one kind)) (by_flags h one Special)) (chosen h members (super_of above name))

    -- a method behind `super`, where the interface that is named before it is whole
    pub super_kept : (named : Option Name) (name : Name) (asked : Target) → ((interface : Name) → named ≡ Some interface → IsWhole world interface)
        → of_super world members from named name arguments ≡ Some asked → of_super headers members from named name arguments ≡ Some asked
    super_kept named name asked listed = by_name named listed
      where
        by_class : (above : Name) → IsWhole world above
            → option_and_then (λ one. option_and_then (λ kind. Some (target (Class above) one kind)) (by_flags world one Special)) (chosen world members (super_of above name)) ≡ Some asked
            → option_and_then (λ one. option_and_then (λ kind. Some (target (Class above) one kind)) (by_flags headers one Special)) (chosen headers members (super_of above name)) ≡ Some asked
        by_class above whole =
            then_kept (λ one. option_and_then (λ kind. Some (target (Class above) one kind)) (by_flags world one Special)) (λ one. option_and_then (λ kind. Some (target (Class above) one kind)) (by_flags headers one Special))
            (chosen world members (super_of above name)) (chosen headers members (super_of above name)) asked
            (λ one. chosen_kept world headers wide members paired (super_of above name) from_whole whole tt arguments_whole one)
            (λ one found gives. ap (option_and_then (λ kind. Some (target (Class above) one kind))) (flags_same (super_of above name) one Special found) ∙ gives)

        by_name : (named : Option Name) → ((interface : Name) → named ≡ Some interface → IsWhole world interface)
            → of_super world members from named name arguments ≡ Some asked → of_super headers members from named name arguments ≡ Some asked
        by_name None listed =
            then_kept (in_above name world) (in_above name headers) (superclass_in (header_of world from)) (superclass_in (header_of headers from)) asked
            (λ above is. superclass_same world headers wide from (from_whole from (above_itself world from)) ∙ is) (λ above is. by_class above (above_whole above is))
        by_name (Some interface) listed = by_class interface (listed interface refl)

    abbrev constructor_of : List Header → Name → Option Target
    constructor_of h class =
        option_and_then (λ (one : MethodIn). if is_of_class one.method.flags then None else Some (target (Class class) one Special)) (chosen h members (super_of class (codes "<init>")))

    constructor_kept : (class : Name) (asked : Target) → IsWhole world class → constructor_of world class ≡ Some asked → constructor_of headers class ≡ Some asked
    constructor_kept class asked whole =
        then_kept (λ (one : MethodIn). if is_of_class one.method.flags then None else Some (target (Class class) one Special)) (λ (one : MethodIn). if is_of_class one.method.flags then None else Some (target (Class class) one Special))
        (chosen world members (super_of class (codes "<init>"))) (chosen headers members (super_of class (codes "<init>"))) asked
        (λ one. chosen_kept world headers wide members paired (super_of class (codes "<init>")) from_whole whole tt arguments_whole one) (λ one found gives. gives)

    pub construct_kept : (own : Bool) (asked : Target) → of_construct world members from own arguments ≡ Some asked → of_construct headers members from own arguments ≡ Some asked
    construct_kept true asked = constructor_kept from asked from_whole
    construct_kept false asked =
        then_kept (constructor_of world) (constructor_of headers) (superclass_in (header_of world from)) (superclass_in (header_of headers from)) asked
        (λ above is. superclass_same world headers wide from (from_whole from (above_itself world from)) ∙ is) (λ above is. constructor_kept above asked (above_whole above is))
