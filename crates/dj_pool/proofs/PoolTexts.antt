-- Which kind of descriptor a text is, told from what is read of it.
use Rattle.std.proofs.Common.{◌≡◌, ◌↔◌, ℕ, List, Option, Some, None, Bool, true, false, IsTrue, IsSomeAnd, IfNone, Bor, refl, sym, ap, ◌∙◌}
use Rattle.std.proofs.lemmas.Bool.{false≢true}
use Rattle.std.specs.Option.{option_copied}
use Rattle.dj_names.specs.declared.types.JType as code
use Rattle.dj_names.specs.declared.descriptor.Descriptor as code_descriptor
use Rattle.dj_names.specs.declared.descriptor.Descriptor.TheVariants as variants
use Rattle.dj_names.specs.Types.{JType, Boolean, Byte, Char, Short, Int, Long, Float, Double, Class, Descriptor, Field, Method, Array, view_type, view_descriptor}
use Rattle.dj_names.specs.Descriptors.{SpellsDescriptor}
use Rattle.dj_names.proofs.DescriptorLemmas.{one_spelled}
use Rattle.dj_pool.specs.PoolFormat.{IsFieldText, IsMethodText, IsArrayText}
use Rattle.dj_pool.specs.PoolTable.{IsReadOf, is_array_type}

-- characters of which nothing is read are no descriptor
pub no_text : (units : Option (List ℕ)) (P : List ℕ → Type 0) → ((these : List ℕ) → P these → (d : Descriptor) × SpellsDescriptor these d) → IsReadOf units None → IsSomeAnd units P → ⊥
no_text None P spelled none is = absurd is
no_text (Some these) P spelled none is = let d = spelled these is in none d.0 d.1

pub no_field : (units : Option (List ℕ)) → IsReadOf units None → IsTrue false ↔ IsSomeAnd units IsFieldText
no_field units none = (λ yes. absurd (false≢true yes), λ is. absurd (no_text units IsFieldText (λ these h. (Field h.type, h.spelled)) none is))

pub no_method : (units : Option (List ℕ)) → IsReadOf units None → IsTrue false ↔ IsSomeAnd units IsMethodText
no_method units none = (λ yes. absurd (false≢true yes), λ is. absurd (no_text units IsMethodText (λ these h. (Method h.parameters h.result, h.spelled)) none is))

pub no_array : (units : Option (List ℕ)) → IsReadOf units None → IsTrue false ↔ IsSomeAnd units IsArrayText
no_array units none = (λ yes. absurd (false≢true yes), λ is. absurd (no_text units IsArrayText (λ these h. (Field (Array h.element), h.spelled)) none is))

-- what a text is read as is what it is
pub read_is : (units : Option (List ℕ)) (found : code_descriptor.Descriptor) (d : Descriptor) → IsReadOf units (Some found) → IsSomeAnd units (λ these. SpellsDescriptor these d) → view_descriptor found ≡ d
read_is None found d read is = absurd is
read_is (Some these) found d read is = one_spelled these (view_descriptor found) d read is

some_field : (units : Option (List ℕ)) → IsSomeAnd units IsFieldText → (t : JType) × IsSomeAnd units (λ these. SpellsDescriptor these (Field t))
some_field None is = absurd is
some_field (Some these) is = (is.type, is.spelled)

-- a method's descriptor is no field's
pub method_is_no_field : (units : Option (List ℕ)) (found : code_descriptor.Descriptor) (parameters : List code.JType) (result : Option code.JType) → found ≡ variants.Method parameters result → IsReadOf units (Some found)
    → IsSomeAnd units IsFieldText → ⊥
method_is_no_field units found parameters result is read field =
    let f = some_field units field in
    let e = rw is at (read_is units found (Field f.0) read f.1) in
    cc

pub method_no_field : (units : Option (List ℕ)) (found : code_descriptor.Descriptor) (parameters : List code.JType) (result : Option code.JType) → found ≡ variants.Method parameters result → IsReadOf units (Some found)
    → IsTrue false ↔ IsSomeAnd units IsFieldText
method_no_field units found parameters result is read = (λ yes. absurd (false≢true yes), λ field. absurd (method_is_no_field units found parameters result is read field))

array_is_field : (units : Option (List ℕ)) → IsSomeAnd units IsArrayText → IsSomeAnd units IsFieldText
array_is_field None is = absurd is
array_is_field (Some these) is = record { type = Array is.element; spelled = is.spelled }

pub method_no_array : (units : Option (List ℕ)) (found : code_descriptor.Descriptor) (parameters : List code.JType) (result : Option code.JType) → found ≡ variants.Method parameters result → IsReadOf units (Some found)
    → IsTrue false ↔ IsSomeAnd units IsArrayText
method_no_array units found parameters result is read = (λ yes. absurd (false≢true yes), λ array. absurd (method_is_no_field units found parameters result is read (array_is_field units array)))

no_array_type : (t element : JType) → is_array_type t ≡ false → t ≡ Array element → ⊥
no_array_type t element isnt is = let none : false ≡ true = sym isnt ∙ ap is_array_type is in false≢true none

field_is_array : (units : List ℕ) (t : JType) → is_array_type t ≡ true → SpellsDescriptor units (Field t) → IsArrayText units
field_is_array units Boolean is spelled = absurd cc
field_is_array units Byte is spelled = absurd cc
field_is_array units Char is spelled = absurd cc
field_is_array units Short is spelled = absurd cc
field_is_array units Int is spelled = absurd cc
field_is_array units Long is spelled = absurd cc
field_is_array units Float is spelled = absurd cc
field_is_array units Double is spelled = absurd cc
field_is_array units (Class name) is spelled = absurd cc
field_is_array units (Array element) is spelled = record { element = element; spelled = spelled }

array_or_not : (units : List ℕ) (t : JType) (is : Bool) → is ≡ is_array_type t → SpellsDescriptor units (Field t) → IsTrue is ↔ IsArrayText units
array_or_not units t true is spelled = (λ yes. field_is_array units t (sym is) spelled, λ array. refl)
array_or_not units t false is spelled = (
  λ yes. absurd (false≢true yes),
  λ array. let same : Field t ≡ Field (Array array.element) = one_spelled units (Field t) (Field (Array array.element)) spelled array.spelled in
      absurd (no_array_type t array.element (sym is) cc),
)

-- a text that is read as a field's type is an array's descriptor where the type is an array's
pub field_array : (units : Option (List ℕ)) (found : code_descriptor.Descriptor) (kind : code.JType) (is : Bool) → found ≡ variants.Field kind → IsReadOf units (Some found) → is ≡ is_array_type (view_type kind)
    → IsTrue is ↔ IsSomeAnd units IsArrayText
field_array None found kind is e read tells = absurd read
field_array (Some these) found kind is e read tells = array_or_not these (view_type kind) is tells (rw e at read)

-- where a method's descriptor is told there is one
pub some_method : (units : Option (List ℕ)) (found : Option (Bor code_descriptor.Descriptor)) → IsReadOf units (option_copied found) → IsSomeAnd units IsMethodText → IfNone found (IsSomeAnd units IsMethodText → ⊥)
some_method units None read is = absurd (false≢true ((no_method units read).1 is))
some_method units (Some found) read is = tt
