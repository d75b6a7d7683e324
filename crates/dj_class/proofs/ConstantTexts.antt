-- The constant of a field, told from what is read of its descriptor.
use Rattle.std.proofs.Common.{◌≡◌, ◌↔◌, ℕ, List, Option, Some, None, Bool, false, IsTrue, IsSomeAnd, refl, sym, ap, ◌∙◌}
use Rattle.std.proofs.lemmas.Bool.{false≢true}
use Rattle.dj_names.specs.declared.types.JType as code
use Rattle.dj_names.specs.declared.descriptor.Descriptor as code_descriptor
use Rattle.dj_names.specs.declared.descriptor.Descriptor.TheVariants as variants
use Rattle.dj_names.specs.Types.{JType, Field, view_type}
use Rattle.dj_names.specs.Descriptors.{SpellsDescriptor}
use Rattle.dj_pool.specs.PoolFormat.{HasTag, text_at}
use Rattle.dj_pool.specs.declared.entry.Entry.{Entry}
use Rattle.dj_class.specs.FileFormat.{IsConstantIndex, constant_tag}
use Rattle.dj_pool.specs.PoolTable.{IsReadOf}
use Rattle.dj_pool.proofs.PoolTexts.{read_is}

constant_descriptor : (pool : List Entry) (descriptor index : ℕ) (h : IsConstantIndex pool descriptor index) → IsSomeAnd (text_at pool descriptor) (λ these. SpellsDescriptor these (Field h.type))
constant_descriptor pool descriptor index h = rw h.at_descriptor h.spelled

-- a field without a descriptor has no constant
pub unread_constant : (pool : List Entry) (descriptor index : ℕ) → IsReadOf (text_at pool descriptor) None → IsTrue false ↔ IsConstantIndex pool descriptor index
unread_constant pool descriptor index none = (λ yes. absurd (false≢true yes), λ h. absurd (none (Field h.type) (constant_descriptor pool descriptor index h)))

-- nor has a method
pub method_constant : (pool : List Entry) (descriptor index : ℕ) (found : code_descriptor.Descriptor) (parameters : List code.JType) (result : Option code.JType) → found ≡ variants.Method parameters result
    → IsReadOf (text_at pool descriptor) (Some found) → IsTrue false ↔ IsConstantIndex pool descriptor index
method_constant pool descriptor index found parameters result is read = (
  λ yes. absurd (false≢true yes),
  λ h. let e = rw is at (read_is (text_at pool descriptor) found (Field h.type) read (constant_descriptor pool descriptor index h)) in absurd cc,
)

-- of a field's type, what is read and what the index leads to
of_type : (units : Option (List ℕ)) (t : JType) → IsSomeAnd units (λ these. SpellsDescriptor these (Field t)) → (these : List ℕ) × (units ≡ Some these) × SpellsDescriptor these (Field t)
of_type None t is = absurd is
of_type (Some these) t is = (these, refl, is)

-- a field has the constant of its type's tag
pub field_constant : (pool : List Entry) (descriptor index : ℕ) (found : code_descriptor.Descriptor) (kind : code.JType) (tag : Option ℕ) (is : Bool) → found ≡ variants.Field kind → IsReadOf (text_at pool descriptor) (Some found)
    → tag ≡ constant_tag (view_type kind) → IsTrue is ↔ IsSomeAnd tag (λ t. HasTag pool index t) → IsTrue is ↔ IsConstantIndex pool descriptor index
field_constant pool descriptor index found kind None is e read tag_is tells = (
  λ yes. absurd (tells.0 yes),
  λ h. let same : Field (view_type kind) ≡ Field h.type = (rw e at (read_is (text_at pool descriptor) found (Field h.type) read (constant_descriptor pool descriptor index h))) in
      let alike : view_type kind ≡ h.type = cc in
      let none : None ≡ Some h.tag = tag_is ∙ ap constant_tag alike ∙ h.of_type in absurd cc,
)
field_constant pool descriptor index found kind (Some tag) is e read tag_is tells = (
  λ yes. let these = of_type (text_at pool descriptor) (view_type kind) (rw e at read) in
      record { units = these.0; at_descriptor = these.1; type = view_type kind; spelled = these.2; tag = tag; of_type = sym tag_is; there = tells.0 yes },
  λ h. let same : Field (view_type kind) ≡ Field h.type = (rw e at (read_is (text_at pool descriptor) found (Field h.type) read (constant_descriptor pool descriptor index h))) in
      let alike : view_type kind ≡ h.type = cc in
      let one : Some tag ≡ Some h.tag = tag_is ∙ ap constant_tag alike ∙ h.of_type in
      let tags : tag ≡ h.tag = cc in tells.1 (rw tags h.there),
)
