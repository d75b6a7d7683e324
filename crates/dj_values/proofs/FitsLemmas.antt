-- Types of the code, and where they go.
use Rattle.std.proofs.Common.{◌≡◌, ◌↔◌, ◌⊎◌, List, refl, inl, inr, arith}
use Rattle.dj_names.specs.declared.header.Header.{Header}
use Rattle.dj_names.specs.declared.types.JType as code
use Rattle.dj_names.specs.declared.types.JType.TheVariants as variants
use Rattle.dj_names.specs.Types.{Class, view_type}
use Rattle.dj_names.specs.Headers.{Name, IsInterface, Implements}
use Rattle.dj_names.specs.Assignable.{IsSubtype, array, parent, object, object_name}
use Rattle.dj_names.proofs.AssignableLemmas.{class_cases}
use Rattle.dj_headers.proofs.TypeViews.{view-class, view-array}

-- a class goes to Object where Object stands above it, or it is an interface
pub class_to_object : (headers : List Header) (from : code.JType) (name : Name) → from ≡ variants.Class name
    → IsSubtype headers (view_type from) (Class object_name) ↔ (Implements headers name object_name ⊎ IsInterface headers name)
class_to_object headers from name is = rw (is, view-class name) (
  λ goes. elim (class_cases headers name object_name goes) [ inl above ↦ inl above | inr interface ↦ inr interface.0 ],
  λ either. elim either [ inl above ↦ parent above | inr interface ↦ object interface ],
)

pub array_to_object : (headers : List Header) (from element : code.JType) → from ≡ variants.Array element → IsSubtype headers (view_type from) (Class object_name)
array_to_object headers from element is = rw (is, view-array element) (array (0, omega arith, refl))
