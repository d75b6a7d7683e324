-- Looking up what the entries of a pool name.
use Rattle.std.proofs.Common.{◌≡◌, ℕ, ◌≤◌, nat_le, Bool, false, List, Option, Some, None, refl, sym, ap, ◌∙◌, arith}
use Rattle.std.specs.Prelude.{IsSomeAnd}
use Rattle.std.proofs.lemmas.Bool.Decides.{nat_tests}
use Rattle.dj_names.specs.declared.types.JType as code
use Rattle.dj_names.specs.declared.descriptor.Descriptor as code_descriptor
use Rattle.dj_names.specs.declared.descriptor.Descriptor.TheVariants as variants
use Rattle.dj_names.specs.Types.{JType, Boolean, Byte, Char, Short, Int, Long, Float, Double, Class, Array, Descriptor, Field, view_type}
use Rattle.dj_names.specs.Descriptors.{dimensions, SpellsDescriptor}
use Rattle.dj_pool.specs.declared.entry.Entry.{Entry}
use Rattle.dj_pool.specs.PoolFormat.{text_at}
use Rattle.dj_pool.specs.PoolTable.{IsReadOf}
use Rattle.dj_pool.proofs.PoolTexts.{read_is}
use Rattle.dj_instructions.specs.PoolNames.{Finds, IsTypeNamed}
use Rattle.dj_instructions.specs.PoolParts.{NamesArray, NamesClass}

-- ---- types

-- what is no descriptor is no array's
pub unread_array : (pool : List Entry) (index : ℕ) → IsReadOf (text_at pool index) None → Finds (NamesArray pool index) None
unread_array pool index none = λ type h. none (Field type) h.spelled

-- nor is a method's
pub method_array : (pool : List Entry) (index : ℕ) (found : code_descriptor.Descriptor) (parameters : List code.JType) (result : Option code.JType) → found ≡ variants.Method parameters result → IsReadOf (text_at pool index) (Some found)
    → Finds (NamesArray pool index) None
method_array pool index found parameters result is read = λ type h. let e = rw is at (read_is (text_at pool index) found (Field type) read h.spelled) in absurd cc

some_dimension : (n : ℕ) → false ≡ nat_le 1 n → 1 ≤ n → ⊥
some_dimension n none some = absurd (grind (arith, nat_tests))

-- nor is that of a type without dimensions
pub flat_array : (pool : List Entry) (index : ℕ) (found : code_descriptor.Descriptor) (kind : code.JType) (has : Bool) → found ≡ variants.Field kind → IsReadOf (text_at pool index) (Some found) → has ≡ nat_le 1 (dimensions (view_type kind)) → has ≡ false
    → Finds (NamesArray pool index) None
flat_array pool index found kind has is read tells none = λ type h.
    let e : Field (view_type kind) ≡ Field type = rw is at (read_is (text_at pool index) found (Field type) read h.spelled) in
    let same : view_type kind ≡ type = cc in
    some_dimension (dimensions type) (sym none ∙ tells ∙ ap (λ (t : JType). nat_le 1 (dimensions t)) same) h.array

-- a type with dimensions that is spelled so is named so
array_named : (units : List ℕ) (type : JType) → SpellsDescriptor units (Field type) → 1 ≤ dimensions type → IsTypeNamed units type
array_named units Boolean spelled some = absurd (omega arith)
array_named units Byte spelled some = absurd (omega arith)
array_named units Char spelled some = absurd (omega arith)
array_named units Short spelled some = absurd (omega arith)
array_named units Int spelled some = absurd (omega arith)
array_named units Long spelled some = absurd (omega arith)
array_named units Float spelled some = absurd (omega arith)
array_named units Double spelled some = absurd (omega arith)
array_named units (Class name) spelled some = absurd (omega arith)
array_named units (Array element) spelled some = spelled

array_at : (units : Option (List ℕ)) (type : JType) → IsSomeAnd units (λ these. SpellsDescriptor these (Field type)) → 1 ≤ dimensions type → IsSomeAnd units (λ these. IsTypeNamed these type)
array_at None type spelled some = absurd spelled
array_at (Some units) type spelled some = array_named units type spelled some

-- a type that is named is a class or an array
class_or_array : (pool : List Entry) (index : ℕ) (units : Option (List ℕ)) (type : JType) → units ≡ text_at pool index → Finds (NamesClass pool index) None → Finds (NamesArray pool index) None → IsSomeAnd units (λ these. IsTypeNamed these type) → ⊥
class_or_array pool index None type is no_class no_array named = named
class_or_array pool index (Some units) Boolean is no_class no_array named = named
class_or_array pool index (Some units) Byte is no_class no_array named = named
class_or_array pool index (Some units) Char is no_class no_array named = named
class_or_array pool index (Some units) Short is no_class no_array named = named
class_or_array pool index (Some units) Int is no_class no_array named = named
class_or_array pool index (Some units) Long is no_class no_array named = named
class_or_array pool index (Some units) Float is no_class no_array named = named
class_or_array pool index (Some units) Double is no_class no_array named = named
class_or_array pool index (Some units) (Class name) is no_class no_array named = no_class (Class name) record { units = name; named = rw (← is) named; class = refl }
class_or_array pool index (Some units) (Array element) is no_class no_array named = no_array (Array element) record { spelled = rw (← is) named; array = omega arith }

-- where no class is named, an array is or nothing
pub array_or_nothing : (pool : List Entry) (index : ℕ) (found : Option JType) → Finds (NamesClass pool index) None → Finds (NamesArray pool index) found → Finds (λ type. IsSomeAnd (text_at pool index) (λ units. IsTypeNamed units type)) found
array_or_nothing pool index None no_class finds = λ type named. class_or_array pool index (text_at pool index) type refl no_class finds named
array_or_nothing pool index (Some type) no_class finds = array_at (text_at pool index) type finds.spelled finds.array
