-- What holds of each class that is read from a file, by the layout of its pool and of its methods.
use Rattle.std.proofs.Common.{◌≡◌, ℕ, zero, suc, ◌<◌, ◌^◌, ◌==◌, Bool, true, false, List, [], ◌∷◌, ◌++◌, Option, Some, None, length, filter, flat_map, refl, sym, ap, subst, slice_get, arith, FitsSigned}
use Rattle.std.specs.Prelude.{IfSome, IsSomeAnd, if◌then◌else◌}
use Rattle.std.specs.Int.{w32, w64, cast_signed, cast_unsigned}
use Rattle.std.specs.List.{AllByRecursion, AllZip}
use Rattle.std.specs.Option.{option_and_then}
use Rattle.std.proofs.lemmas.Int.{ints}
use Rattle.std.proofs.lemmas.List.Elements.{recursion_from_All}
use Rattle.std.proofs.lemmas.Option.{same_Some, none-some}
use Rattle.dj_layout.specs.Parts.{number}
use Rattle.dj_layout.specs.Passes.{IsSequence}
use Rattle.dj_names.specs.declared.members.Constant.{Constant}
use Rattle.dj_names.specs.declared.members.Constant.TheVariants as constant
use Rattle.dj_names.specs.Types.{Descriptor, Method}
use Rattle.dj_names.specs.Descriptors.{SpellsDescriptor}
use Rattle.dj_names.specs.Utf8.{IsUnit}
use Rattle.dj_pool.specs.declared.entry.Entry.{Entry}
use Rattle.dj_pool.specs.declared.entry.Entry.TheVariants as entry
use Rattle.dj_pool.specs.PoolFormat.{IsMethodText, entry_within, tag_of, places, spread, isnt_skip, text_of, text_at, pool}
use Rattle.dj_class.specs.Described.{ClassOf, FieldOf, MethodOf, constant_of, IsConstant, DescribesField, DescribesMethod, SpellsClass}
use Rattle.dj_class.specs.Members.{RawMember}
use Rattle.dj_class.specs.FileFormat as file
use Rattle.dj_class.specs.FileFormat.{index_of}
use Rattle.dj_class.proofs.FileIsUnique.{one_descriptor}
use Rattle.dj_class_text.specs.Formed.{FitsConstant, IsOfMethod, IsFromFile}

-- ---- entries

-- the number or the units of an entry are of their size
abbrev FitsEntry : Entry → Type 0
FitsEntry entry.Skip = Unit {0}
FitsEntry (entry.Utf8 units) = AllByRecursion IsUnit units
FitsEntry (entry.Integer value) = FitsSigned w32 value
FitsEntry (entry.Float bits) = Unit {0}
FitsEntry (entry.Long value) = FitsSigned w64 value
FitsEntry (entry.Double bits) = Unit {0}
FitsEntry (entry.Class name) = Unit {0}
FitsEntry (entry.Text units) = Unit {0}
FitsEntry (entry.FieldRef class member) = Unit {0}
FitsEntry (entry.MethodRef class member) = Unit {0}
FitsEntry (entry.InterfaceMethodRef class member) = Unit {0}
FitsEntry (entry.NameAndType name descriptor) = Unit {0}
FitsEntry (entry.MethodHandle kind reference) = Unit {0}
FitsEntry (entry.MethodType descriptor) = Unit {0}
FitsEntry (entry.InvokeDynamic bootstrap member) = Unit {0}

int_cast : (bits : ℕ) → bits < 4294967296 → FitsSigned w32 (cast_signed w32 bits)
int_cast bits within = omega (arith, ints)

long_cast : (bits : ℕ) → bits < 18446744073709551616 → FitsSigned w64 (cast_signed w64 bits)
long_cast bits within = omega (arith, ints)

entry_fits : (room : ℕ) (found : Entry) → (entry_within None room).Fits found → FitsEntry found
unfolding number
entry_fits room entry.Skip fits = tt
entry_fits room (entry.Utf8 units) fits = recursion_from_All IsUnit units fits.1.0.1.0
entry_fits room (entry.Integer value) fits = subst FitsEntry (sym fits.1.1) (int_cast (cast_unsigned w32 value) fits.1.0.0.0)
entry_fits room (entry.Float bits) fits = tt
entry_fits room (entry.Long value) fits = subst FitsEntry (sym fits.1.1) (long_cast (cast_unsigned w64 value) fits.1.0.0.0)
entry_fits room (entry.Double bits) fits = tt
entry_fits room (entry.Class name) fits = tt
entry_fits room (entry.Text units) fits = tt
entry_fits room (entry.FieldRef class member) fits = tt
entry_fits room (entry.MethodRef class member) fits = tt
entry_fits room (entry.InterfaceMethodRef class member) fits = tt
entry_fits room (entry.NameAndType name descriptor) fits = tt
entry_fits room (entry.MethodHandle kind reference) fits = tt
entry_fits room (entry.MethodType descriptor) fits = tt
entry_fits room (entry.InvokeDynamic bootstrap member) fits = tt

-- ---- the pool

sequence_fits : (enough : List Entry → Bool) (room : List Entry → ℕ) (before found : List Entry) → IsSequence enough (λ these. entry_within None (room these)) before found → AllByRecursion FitsEntry found
sequence_fits enough room before [] is = tt
sequence_fits enough room before (first ∷ found) is = (entry_fits (room before) first is.1, sequence_fits enough room (before ++ first ∷ []) found is.2)

all_both : (first second : List Entry) → AllByRecursion FitsEntry first → AllByRecursion FitsEntry second → AllByRecursion FitsEntry (first ++ second)
all_both [] second all others = others
all_both (one ∷ first) second all others = (all.0, all_both first second all.1 others)

spread_fits : (found : List Entry) → AllByRecursion FitsEntry found → AllByRecursion FitsEntry (flat_map spread found)
spread_fits [] all = tt
spread_fits (one ∷ found) all = all_both (spread one) (flat_map spread found) (go (places (tag_of one) == 2)) (spread_fits found all.1)
  where
    go : (wide : Bool) → AllByRecursion FitsEntry (if wide then one ∷ entry.Skip ∷ [] else one ∷ [])
    go true = (all.0, (tt, tt))
    go false = (all.0, tt)

pool_fits : (found : List Entry) → (pool None).Fits found → AllByRecursion FitsEntry found
pool_fits found fits =
    subst (AllByRecursion FitsEntry) fits.1.1 (tt, spread_fits (filter isnt_skip found) (sequence_fits _ _ [] (filter isnt_skip found) fits.1.0.0))

entry_at : (found : List Entry) (at : ℕ) (one : Entry) → AllByRecursion FitsEntry found → slice_get found at ≡ Some one → FitsEntry one
entry_at [] zero one all is = absurd (none-some one is)
entry_at [] (suc at) one all is = absurd (none-some one is)
entry_at (first ∷ found) zero one all is = subst FitsEntry (same_Some first one is) all.0
entry_at (first ∷ found) (suc at) one all is = entry_at found at one all.1 is

-- ---- constants

module _ (found : List Entry) (all : AllByRecursion FitsEntry found) where
  text_fits : (one : Option Entry) (units : List ℕ) → ((e : Entry) → one ≡ Some e → FitsEntry e) → option_and_then text_of one ≡ Some units → AllByRecursion IsUnit units
  text_fits None units each is = absurd (none-some units is)
  text_fits (Some entry.Skip) units each is = absurd (none-some units is)
  text_fits (Some (entry.Utf8 these)) units each is = subst (AllByRecursion IsUnit) (same_Some these units is) (each (entry.Utf8 these) refl)
  text_fits (Some (entry.Integer value)) units each is = absurd (none-some units is)
  text_fits (Some (entry.Float bits)) units each is = absurd (none-some units is)
  text_fits (Some (entry.Long value)) units each is = absurd (none-some units is)
  text_fits (Some (entry.Double bits)) units each is = absurd (none-some units is)
  text_fits (Some (entry.Class name)) units each is = absurd (none-some units is)
  text_fits (Some (entry.Text index)) units each is = absurd (none-some units is)
  text_fits (Some (entry.FieldRef class member)) units each is = absurd (none-some units is)
  text_fits (Some (entry.MethodRef class member)) units each is = absurd (none-some units is)
  text_fits (Some (entry.InterfaceMethodRef class member)) units each is = absurd (none-some units is)
  text_fits (Some (entry.NameAndType name descriptor)) units each is = absurd (none-some units is)
  text_fits (Some (entry.MethodHandle kind reference)) units each is = absurd (none-some units is)
  text_fits (Some (entry.MethodType descriptor)) units each is = absurd (none-some units is)
  text_fits (Some (entry.InvokeDynamic bootstrap member)) units each is = absurd (none-some units is)

  units_fit : (index : ℕ) (units : Option (List ℕ)) → text_at found index ≡ units → IfSome (option_and_then (λ these. Some (constant.Text these)) units) FitsConstant
  units_fit index None is = tt
  units_fit index (Some units) is = text_fits (slice_get found index) units (λ e at. entry_at found index e all at) is

  constant_fits : (one : Entry) → FitsEntry one → IfSome (constant_of found one) FitsConstant
  constant_fits entry.Skip fits = tt
  constant_fits (entry.Utf8 units) fits = tt
  constant_fits (entry.Integer value) fits = fits
  constant_fits (entry.Float bits) fits = tt
  constant_fits (entry.Long value) fits = fits
  constant_fits (entry.Double bits) fits = tt
  constant_fits (entry.Class name) fits = tt
  constant_fits (entry.Text index) fits = units_fit index (text_at found index) refl
  constant_fits (entry.FieldRef class member) fits = tt
  constant_fits (entry.MethodRef class member) fits = tt
  constant_fits (entry.InterfaceMethodRef class member) fits = tt
  constant_fits (entry.NameAndType name descriptor) fits = tt
  constant_fits (entry.MethodHandle kind reference) fits = tt
  constant_fits (entry.MethodType descriptor) fits = tt
  constant_fits (entry.InvokeDynamic bootstrap member) fits = tt

  led_fits : (index : ℕ) (one : Option Entry) → slice_get found index ≡ one → IfSome (option_and_then (constant_of found) one) FitsConstant
  led_fits index None is = tt
  led_fits index (Some one) is = constant_fits one (entry_at found index one all is)

  value_fits : (contents : List (List ℕ)) (value : Option Constant) → IsConstant found contents value → IfSome value FitsConstant
  value_fits [] value is = subst (λ (v : Option Constant). IfSome v FitsConstant) (sym is) tt
  value_fits (content ∷ []) value is = subst (λ (v : Option Constant). IfSome v FitsConstant) (sym is) (led_fits (index_of content) (slice_get found (index_of content)) refl)
  value_fits (content ∷ other ∷ others) value is = absurd is

  fields_fit : (raw : List RawMember) (fields : List FieldOf) → AllZip (DescribesField found) raw fields → AllByRecursion (λ (field : FieldOf). IfSome field.constant FitsConstant) fields
  fields_fit [] [] each = tt
  fields_fit [] (field ∷ fields) each = absurd each
  fields_fit (member ∷ raw) [] each = absurd each
  fields_fit (member ∷ raw) (field ∷ fields) each = (value_fits _ field.constant each.0.constant, fields_fit raw fields each.1)

-- ---- descriptors of methods

of_method : (units : Option (List ℕ)) (descriptor : Descriptor) → IsSomeAnd units IsMethodText → IsSomeAnd units (λ these. SpellsDescriptor these descriptor) → IsOfMethod descriptor
of_method None descriptor text spelled = absurd text
of_method (Some units) descriptor text spelled =
    subst IsOfMethod (one_descriptor (Some units) (Method text.parameters text.result) descriptor text.spelled spelled) tt

methods_fit : (found : List Entry) (raw : List RawMember) (methods : List MethodOf) → AllByRecursion (file.method found).Fits raw → AllZip (DescribesMethod found) raw methods → AllByRecursion (λ (method : MethodOf). IsOfMethod method.descriptor) methods
methods_fit found [] [] all each = tt
methods_fit found [] (method ∷ methods) all each = absurd each
methods_fit found (member ∷ raw) [] all each = absurd each
methods_fit found (member ∷ raw) (method ∷ methods) all each =
    (of_method (text_at found member.descriptor) method.descriptor all.0.1.1.0.1 each.0.descriptor, methods_fit found raw methods all.1 each.1)

-- ---- the class

-- as many items are related as there are
zip_number : {A B : Type 0} (R : A → B → Type 0) (xs : List A) (ys : List B) → AllZip R xs ys → length ys ≡ length xs
zip_number R [] [] each = refl
zip_number R [] (y ∷ ys) each = absurd each
zip_number R (x ∷ xs) [] each = absurd each
zip_number R (x ∷ xs) (y ∷ ys) each = ap suc (zip_number R xs ys each.1)

-- the number of methods stands in two bytes (JVMS 4.1)
few_methods : (bytes : List ℕ) (oldest : ℕ) (class : ClassOf) → SpellsClass bytes oldest class → length class.methods < 2 ^ 32
unfolding number
few_methods bytes oldest class spelled =
    let raw = spelled.raw.rest.listed.methods in
    let number : length raw < 65536 = spelled.laid_out.fits.1.1.0.1.0.1.1.0.0 in
    let as_many : length class.methods ≡ length raw = zip_number _ raw class.methods spelled.described.methods in
    omega (arith, number, as_many)

pub from_file : (bytes : List ℕ) (oldest : ℕ) (class : ClassOf) → SpellsClass bytes oldest class → IsFromFile class
from_file bytes oldest class spelled =
    let found = spelled.raw.front.pool in
    let methods = spelled.raw.rest.listed.methods in
    record {
      constants = fields_fit found (pool_fits found spelled.laid_out.fits.1.0.1.1.0) spelled.raw.rest.listed.fields class.fields spelled.described.fields;
      descriptors = methods_fit found methods class.methods (recursion_from_All (file.method found).Fits methods spelled.lawful.1.1.0.1.0.1.1.0.1.1) spelled.described.methods;
      few = few_methods bytes oldest class spelled;
    }
