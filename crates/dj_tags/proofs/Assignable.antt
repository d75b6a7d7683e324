-- The machine's assignability, read backwards.
use Rattle.std.proofs.Common.{◌≡◌, ◌↔◌, ◌⊎◌, ℕ, List, Contains, refl, subst, inl, inr}
use Rattle.dj_names.specs.declared.header.Header.{Header}
use Rattle.dj_names.specs.declared.types.JType as code
use Rattle.dj_names.specs.declared.types.JType.TheVariants as variants
use Rattle.dj_names.specs.Types.{JType, Boolean, Byte, Char, Short, Int, Long, Float, Double, Class, Array, view_type}
use Rattle.dj_names.specs.Headers.{IsInterface, IsSubclass}
use Rattle.dj_names.specs.Assignable.{IsReference, above_arrays}
use Rattle.dj_headers.proofs.TypeViews.{view-class, view-array}
use Rattle.dj_tags.specs.Laxly as laxly
use Rattle.dj_tags.specs.Laxly.{IsUnknown, HasUnknownAbove, IsPrimitive, IsJavaAssignable, array, same_elements, elements}

primitive_of : (type : JType) → (IsReference type → ⊥) → IsPrimitive type
primitive_of Boolean none = laxly.boolean
primitive_of Byte none = laxly.byte
primitive_of Char none = laxly.char
primitive_of Short none = laxly.short
primitive_of Int none = laxly.int
primitive_of Long none = laxly.long
primitive_of Float none = laxly.float
primitive_of Double none = laxly.double
primitive_of (Class name) none = absurd (none tt)
primitive_of (Array element) none = absurd (none tt)

not_both : {type : JType} → IsPrimitive type → IsReference type → ⊥
not_both laxly.boolean reference = reference
not_both laxly.byte reference = reference
not_both laxly.char reference = reference
not_both laxly.short reference = reference
not_both laxly.int reference = reference
not_both laxly.long reference = reference
not_both laxly.float reference = reference
not_both laxly.double reference = reference

-- what goes anywhere is a reference
from_reference : (headers : List Header) {from to : JType} → IsJavaAssignable headers from to → IsReference from
from_reference headers (laxly.subclass above) = tt
from_reference headers (laxly.interface above) = tt
from_reference headers (laxly.from_unknown above) = tt
from_reference headers (laxly.to_unknown above) = tt
from_reference headers (array above) = tt
from_reference headers (same_elements primitive) = tt
from_reference headers (elements goes) = tt

array_class_is : (headers : List Header) (element : JType) (to : List ℕ) → IsJavaAssignable headers (Array element) (Class to) → Contains above_arrays to
array_class_is headers element to (array above) = above

pub array_class : (headers : List Header) (from to element : code.JType) (name : List ℕ) → from ≡ variants.Array element → to ≡ variants.Class name → Contains above_arrays name ↔ IsJavaAssignable headers (view_type from) (view_type to)
array_class headers from to element name is to_is = rw (is, to_is, view-array element, view-class name) (array, array_class_is headers (view_type element) name)

from_array : (headers : List Header) (from to : JType) → IsReference from → IsJavaAssignable headers (Array from) (Array to) → IsJavaAssignable headers from to
from_array headers from to reference (same_elements primitive) = absurd (not_both primitive reference)
from_array headers from to reference (elements goes) = goes

pub array_of_references : (headers : List Header) (from to element wanted : code.JType) → from ≡ variants.Array element → to ≡ variants.Array wanted → IsReference (view_type element)
    → IsJavaAssignable headers (view_type element) (view_type wanted) ↔ IsJavaAssignable headers (view_type from) (view_type to)
array_of_references headers from to element wanted is to_is reference =
    rw (is, to_is, view-array element, view-array wanted) (elements, from_array headers (view_type element) (view_type wanted) reference)

same_of : (headers : List Header) (from to : JType) → (IsReference from → ⊥) → IsJavaAssignable headers (Array from) (Array to) → from ≡ to
same_of headers from to none (same_elements primitive) = refl
same_of headers from to none (elements goes) = absurd (none (from_reference headers goes))

same_goes : (headers : List Header) (from to : JType) → (IsReference from → ⊥) → from ≡ to → IsJavaAssignable headers (Array from) (Array to)
same_goes headers from to none same = subst (λ type. IsJavaAssignable headers (Array from) (Array type)) same (same_elements (primitive_of from none))

pub array_of_primitives : (headers : List Header) (from to element wanted : code.JType) → from ≡ variants.Array element → to ≡ variants.Array wanted → (IsReference (view_type element) → ⊥)
    → (view_type element ≡ view_type wanted) ↔ IsJavaAssignable headers (view_type from) (view_type to)
array_of_primitives headers from to element wanted is to_is none =
    rw (is, to_is, view-array element, view-array wanted) (same_goes headers (view_type element) (view_type wanted) none, same_of headers (view_type element) (view_type wanted) none)

-- the four ways in which one class goes to another
pub record Way (headers : List Header) (from to : List ℕ) : Type 0 where
  pub way : (IsSubclass headers from to ⊎ IsUnknown headers to) ⊎ (IsInterface headers to ⊎ HasUnknownAbove headers from)

pub class_way : (headers : List Header) (from to : List ℕ) → IsJavaAssignable headers (Class from) (Class to) → Way headers from to
class_way headers from to (laxly.subclass above) = record { way = inl (inl above) }
class_way headers from to (laxly.interface is) = record { way = inr (inl is) }
class_way headers from to (laxly.from_unknown above) = record { way = inr (inr above) }
class_way headers from to (laxly.to_unknown unknown) = record { way = inl (inr unknown) }
