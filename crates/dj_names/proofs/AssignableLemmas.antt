-- How a type goes to another, turned round.
use Rattle.std.proofs.Common.{◌≡◌, ◌⊎◌, List, [], Contains, refl, sym, ap, subst, inl, inr, ◌∙◌, arith}
use Rattle.dj_names.specs.declared.header.Header.{Header}
use Rattle.dj_names.specs.Types.{JType, Boolean, Byte, Char, Short, Int, Long, Float, Double, Class, Array}
use Rattle.dj_names.specs.Headers.{Name, IsInterface, Implements}
use Rattle.dj_names.specs.Assignable.{wider_types, IsReference, object_name, above_arrays, IsSubtype, own_type, wider_number, parent, object, elements, array}

pub class_cases : (headers : List Header) (from to : Name) → IsSubtype headers (Class from) (Class to) → Implements headers from to ⊎ (IsInterface headers from × (to ≡ object_name))
class_cases headers from to own_type = inl (record { path = []; is_path = refl })
class_cases headers from to (wider_number (k, within, is)) = absurd (omega arith)
class_cases headers from to (parent above) = inl above
class_cases headers from to (object interface) = inr (interface, refl)

pub object_class : (headers : List Header) (from to : Name) → object_name ≡ to → IsInterface headers from → IsSubtype headers (Class from) (Class to)
object_class headers from to is interface = subst (λ (name : Name). IsSubtype headers (Class from) (Class name)) is (object interface)

-- a class or interface goes to this one otherwise than as itself
abbrev pub GoesUp : List Header → Name → Name → Type 0
GoesUp headers from to = Implements headers from to ⊎ (IsInterface headers from × (to ≡ object_name))

-- how a type goes to another that isn't it, nor a wider number type
abbrev pub Beyond : List Header → JType → JType → Type 0
Beyond headers Boolean to = ⊥
Beyond headers Byte to = ⊥
Beyond headers Char to = ⊥
Beyond headers Short to = ⊥
Beyond headers Int to = ⊥
Beyond headers Long to = ⊥
Beyond headers Float to = ⊥
Beyond headers Double to = ⊥
Beyond headers (Class from) to = (name : Name) × (to ≡ Class name) × GoesUp headers from name
Beyond headers (Array from) to = (IsReference from × ((element : JType) × (to ≡ Array element) × IsSubtype headers from element)) ⊎ ((name : Name) × (to ≡ Class name) × Contains above_arrays name)

-- how a type goes to another
abbrev pub Ways : List Header → JType → JType → Type 0
Ways headers from to = ((from ≡ to) ⊎ Contains (wider_types from) to) ⊎ Beyond headers from to

pub ways : (headers : List Header) (from to : JType) → IsSubtype headers from to → Ways headers from to
ways headers from to own_type = inl (inl refl)
ways headers from to (wider_number within) = inl (inr within)
ways headers from to (parent {from = lower} {to = upper} above) = inr (upper, refl, inl above)
ways headers from to (object interface) = inr (object_name, refl, inr (interface, refl))
ways headers from to (elements {from = element} {to = wanted} reference goes) = inr (inl (reference, (wanted, refl, goes)))
ways headers from to (array {to = upper} above) = inr (inr (upper, refl, above))

pub plain_way : (headers : List Header) (from to : JType) → (from ≡ to) ⊎ Contains (wider_types from) to → IsSubtype headers from to
plain_way headers from to (inl same) = subst (IsSubtype headers from) same own_type
plain_way headers from to (inr wider) = wider_number wider

pub class_way : (headers : List Header) (from : Name) (to : JType) → Beyond headers (Class from) to → IsSubtype headers (Class from) to
class_way headers from to (name, is, inl above) = subst (IsSubtype headers (Class from)) (sym is) (parent above)
class_way headers from to (name, is, inr (interface, same)) =
    subst (IsSubtype headers (Class from)) (sym (is ∙ ap Class same)) (object interface)

pub array_way : (headers : List Header) (from to : JType) → Beyond headers (Array from) to → IsSubtype headers (Array from) to
array_way headers from to (inl (reference, (element, is, goes))) = subst (IsSubtype headers (Array from)) (sym is) (elements reference goes)
array_way headers from to (inr (name, is, above)) = subst (IsSubtype headers (Array from)) (sym is) (array above)
