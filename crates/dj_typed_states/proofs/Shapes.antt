-- Shapes are kept wherever a reference goes, and by what arrays hold.
use Rattle.std.proofs.Common.{◌≡◌, ℕ, List, IsSomeAnd, Contains, refl, sym, subst, arith}
use Rattle.dj_names.specs.declared.header.Header.{Header}
use Rattle.dj_names.specs.Types.{JType, Boolean, Byte, Char, Short, Int, Long, Float, Double, Class, Array}
use Rattle.dj_names.specs.Assignable.{wider_types, IsReference, IsSubtype, own_type, wider_number, parent, object, elements, array}
use Rattle.dj_values.specs.Fits.{element_of, IsLengthOf}
use Rattle.dj_typed_states.specs.Shapes.{HasShape}

-- an array whose elements are such
record IsArrayOf (P : JType → Type 0) (found : JType) : Type 0 where
  element : JType
  is : found ≡ Array element
  has : P element

array_of : (P : JType → Type 0) (found : JType) → IsSomeAnd (element_of found) P → IsArrayOf P found
array_of P (Array element) has = record { element = element; is = refl; has = has }
array_of P found has = absurd has

pub shape_refl : (type : JType) → HasShape type type
shape_refl (Class name) = tt
shape_refl (Array element) = shape_refl element
shape_refl type = refl

-- what has the shape of an array is a reference
array_reference : (P : JType → Type 0) (found : JType) → IsSomeAnd (element_of found) P → IsReference found
array_reference P (Array element) has = tt
array_reference P found has = absurd has

-- what has the shape of a reference is one
pub shape_reference : (type found : JType) → IsReference type → HasShape type found → IsReference found
shape_reference (Class name) found is shape = shape
shape_reference (Array element) found is shape = array_reference (HasShape element) found shape
shape_reference type found is shape = absurd is

pub shape_join : (type between found : JType) → HasShape type between → HasShape between found → HasShape type found
shape_join Boolean between found first second = subst (λ t. HasShape t found) first second
shape_join Byte between found first second = subst (λ t. HasShape t found) first second
shape_join Char between found first second = subst (λ t. HasShape t found) first second
shape_join Short between found first second = subst (λ t. HasShape t found) first second
shape_join Int between found first second = subst (λ t. HasShape t found) first second
shape_join Long between found first second = subst (λ t. HasShape t found) first second
shape_join Float between found first second = subst (λ t. HasShape t found) first second
shape_join Double between found first second = subst (λ t. HasShape t found) first second
shape_join (Class name) between found first second = shape_reference between found first second
shape_join (Array element) between found first second =
    let outer = array_of (HasShape element) between first in
    let inner = array_of (HasShape outer.element) found (subst (λ t. HasShape t found) outer.is second) in
    subst (λ t. HasShape (Array element) t) (sym inner.is) (shape_join element outer.element inner.element outer.has inner.has)

-- a reference type has no wider number type
none_wider : (from to : JType) → IsReference from → Contains (wider_types from) to → ⊥
none_wider (Class name) to is (k, within, at) = omega (arith, within)
none_wider (Array element) to is (k, within, at) = omega (arith, within)
none_wider from to is wider = absurd is

pub subtype_shape : (headers : List Header) (from to : JType) → IsReference from → IsSubtype headers from to → HasShape to from
subtype_shape headers from to is (own_type {type}) = shape_refl type
subtype_shape headers from to is (wider_number wider) = absurd (none_wider from to is wider)
subtype_shape headers from to is (parent up) = tt
subtype_shape headers from to is (object interface) = tt
subtype_shape headers from to is (elements {from = lower} {to = upper} reference goes) = subtype_shape headers lower upper reference goes
subtype_shape headers from to is (array above) = tt

-- what has a length is a reference
pub length_reference : (class : JType) (length : ℕ) → IsLengthOf class length → IsReference class
length_reference (Class name) length is = tt
length_reference (Array element) length is = tt
length_reference class length is = absurd is
