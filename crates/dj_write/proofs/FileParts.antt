-- A file whose indices lead where those of another lead is as lawful, and describes the same class.
use Rattle.std.proofs.Common.{◌≡◌, ℕ, ◌<◌, ◌≤◌, ◌&&◌, nat_le, List, [], ◌∷◌, length, filter, flat_map, Option, Some, None, IsTrue, refl, sym, ap, subst, ◌∙◌, inl, inr, arith}
use Rattle.std.specs.Prelude.{IsSomeAnd}
use Rattle.std.specs.List.{All, AllByRecursion, AllZip}
use Rattle.std.proofs.lemmas.Bool.Decides.{nat_tests}
use Rattle.std.proofs.lemmas.List.Elements.{All-from_recursion, recursion_from_All}
use Rattle.std.proofs.lemmas.Option.{none-some}
use Rattle.dj_layout.specs.Layout.{Layout}
use Rattle.dj_layout.specs.Parts.{number}
use Rattle.dj_names.specs.ClassNames.{IsClassName}
use Rattle.dj_names.specs.Headers.{Name}
use Rattle.dj_pool.specs.declared.entry.Entry.{Entry}
use Rattle.dj_pool.specs.declared.entry.Entry.TheVariants as entry
use Rattle.dj_pool.specs.declared.fault.BrokenKind.{BrokenKind}
use Rattle.dj_pool.specs.declared.raw.Attribute.{Attribute}
use Rattle.dj_pool.specs.PoolFormat.{IsClassIndex, class_at, isnt_skip, pool, spread}
use Rattle.dj_pool.specs.SharedParts.{counted, u2}
use Rattle.dj_class.specs.Members.{RawMember}
use Rattle.dj_class.specs.Described.{ClassOf, DescribesClass, DescribesField, DescribesMethod, SpellsClass}
use Rattle.dj_class.specs.FileFormat.{HasClassFlags, IsSuperIndex, LeadsTo, Own, Raw, Rest, field, file, front, lawful_own, lawful_rest, method, named, sound}
use Rattle.dj_class.proofs.FileIsFiner.{sound_is_laid_out}
use Rattle.dj_write.specs.Found.{IsLed}
use Rattle.dj_write.specs.declared.members.RawMember as code
use Rattle.dj_write.specs.Files.{view_members}
use Rattle.dj_write.specs.Written.{AreClasses, AreRaws, HasClasses, HasFile, HasSuper, IsDescribed, IsFileOf, IsSuper, LeadsIn}
use Rattle.dj_write.proofs.MemberParts.{are_known, classes_fit, has_classes, zip_number}

-- ---- index 0

nothing_first : (found rest : List Entry) → entry.Skip ∷ rest ≡ found → class_at found 0 ≡ None
nothing_first found rest is = subst (λ (these : List Entry). class_at these 0 ≡ None) is refl

-- no class is at index 0
pub no_class : (found : List Entry) → (pool None).Fits found → class_at found 0 ≡ None
no_class found fits = nothing_first found (flat_map spread (filter isnt_skip found)) fits.1.1

-- ---- flags, class and superclass

super_right : (found : List Entry) (flags this other index : ℕ) (name : Name) (super : Option Name) (old : ℕ) → class_at found 0 ≡ None → class_at found this ≡ Some name → class_at found other ≡ Some name → super ≡ class_at found old → IsSuperIndex found flags this old
    → IsSuper found super index → IsSuperIndex found flags other index × (super ≡ class_at found index) × (index < 65536)
super_right found flags this other index name None old none first second is right is_zero = elim right.some_class [
  | inl top ↦ (let same : index ≡ old = is_zero ∙ sym top.0 in
      (record { some_class = inl (is_zero, second ∙ sym first ∙ top.1); of_interface = λ set. ap (class_at found) same ∙ right.of_interface set }, is ∙ ap (class_at found) (sym same), omega arith))
  | inr class ↦ absurd (subst (λ (o : Option Name). IsSomeAnd o IsClassName) (sym is) class)
]
super_right found flags this other index name (Some super) old none first second is right led =
    let same : class_at found index ≡ class_at found old = led.leads ∙ is in
    let class : IsClassIndex found old = elim right.some_class [
      | inl top ↦ absurd (none-some super (sym none ∙ ap (class_at found) (sym top.0) ∙ sym is))
      | inr class ↦ class
    ] in
    (record { some_class = inr (subst (λ (o : Option Name). IsSomeAnd o IsClassName) (sym same) class); of_interface = λ set. same ∙ right.of_interface set }, sym led.leads, led.small)

-- ---- the parts of a file

-- what is known of each part of a class that has a file
pub record HasParts (found : List Entry) (class : ClassOf) : Type 0 where
  pub few : length found < 65536
  pub this_class : IsLed (class_at found) class.this_class
  pub super_class : HasSuper found class.super_class
  pub interfaces : HasClasses found class.interfaces
  pub fields : All (IsDescribed (field found) (DescribesField found)) class.fields
  pub methods : All (IsDescribed (method found) (DescribesMethod found)) class.methods

described_each : {B : Type 0} (item : Layout BrokenKind RawMember) (Describes : RawMember → B → Type 0) (raws : List RawMember) (described : List B) → AllByRecursion item.Fits raws → AllZip Describes raws described
    → AllByRecursion (IsDescribed item Describes) described
described_each item Describes [] [] all each = tt
described_each item Describes [] (x ∷ described) all each = absurd each
described_each item Describes (raw ∷ raws) [] all each = absurd each
described_each item Describes (raw ∷ raws) (x ∷ described) all each = (record { raw = raw; fits = all.0; describes = each.0 }, described_each item Describes raws described all.1 each.1)

super_known : (found : List Entry) (old : ℕ) (super : Option Name) → super ≡ class_at found old → HasSuper found super
super_known found old None is = tt
super_known found old (Some name) is = record { index = old; leads = sym is }

-- what follows a pool describes the class behind it
record IsOf (found : List Entry) (rest : Rest) (class : ClassOf) : Type 0 where
  pub lawful : (lawful_rest found).Fits rest
  pub flags : class.flags ≡ rest.own.flags
  pub this_class : LeadsTo found rest.own.this_class class.this_class
  pub super_class : class.super_class ≡ class_at found rest.own.super_class
  pub interfaces : AllZip (LeadsTo found) rest.listed.interfaces class.interfaces
  pub fields : AllZip (DescribesField found) rest.listed.fields class.fields
  pub methods : AllZip (DescribesMethod found) rest.listed.methods class.methods

rest_of_file : (class : ClassOf) (has : HasFile class) → IsOf class.pool has.spelled.raw.rest class
rest_of_file class has =
    let is = has.spelled.described in
    let behind : IsOf has.spelled.raw.front.pool has.spelled.raw.rest class = record {
      lawful = has.spelled.lawful.1.1.0;
      flags = is.flags;
      this_class = is.this_class;
      super_class = is.super_class;
      interfaces = is.interfaces;
      fields = is.fields;
      methods = is.methods;
    } in
    subst (λ (found : List Entry). IsOf found has.spelled.raw.rest class) (sym is.pool) behind

pool_of_file : (class : ClassOf) → HasFile class → (pool None).Fits class.pool
pool_of_file class has = subst (pool None).Fits (sym has.spelled.described.pool) has.spelled.laid_out.fits.1.0.1.1.0

each_fits : {A : Type 0} (item : Layout BrokenKind A) (items : List A) → (counted item).Fits items → AllByRecursion item.Fits items
each_fits item items fits = recursion_from_All item.Fits items fits.1.1

-- what a class that has a file has in its pool
pub has_parts : (class : ClassOf) → HasFile class → HasParts class.pool class
unfolding number
has_parts class has =
    let found = class.pool in
    let rest = has.spelled.raw.rest in
    let of = rest_of_file class has in
    let fields = rest.listed.fields in
    let methods = rest.listed.methods in
    record {
      few = (pool_of_file class has).0.0;
      this_class = record { index = rest.own.this_class; leads = of.this_class };
      super_class = super_known found rest.own.super_class class.super_class of.super_class;
      interfaces = has_classes found class.interfaces (are_known found rest.listed.interfaces class.interfaces of.lawful.1.0.0 of.interfaces);
      fields = All-from_recursion (IsDescribed (field found) (DescribesField found)) class.fields
          (described_each (field found) (DescribesField found) fields class.fields (each_fits (field found) fields of.lawful.1.0.1.0) of.fields);
      methods = All-from_recursion (IsDescribed (method found) (DescribesMethod found)) class.methods
          (described_each (method found) (DescribesMethod found) methods class.methods (each_fits (method found) methods of.lawful.1.0.1.1.0) of.methods);
    }

-- and so in an equal one
pub parts_in : (class : ClassOf) (found : List Entry) → HasFile class → found ≡ class.pool → HasParts found class
parts_in class found has is = subst (λ (these : List Entry). HasParts these class) (sym is) (has_parts class has)

-- ---- the file that is written

within : (a b m : ℕ) → IsTrue (nat_le a m && nat_le m 52) → b ≤ m → IsTrue (nat_le b m && nat_le m 52)
within a b m old le = grind (arith, nat_tests)

front_written : (class : ClassOf) → HasFile class → (oldest : ℕ) → oldest ≤ class.major → (front oldest (Some class.pool)).Fits (record { minor = class.minor; major = class.major; pool = class.pool })
front_written class has oldest le =
    let is = has.spelled.described in
    let old = has.spelled.lawful.1.0 in
    let major = subst (λ (m : ℕ). u2.Fits m × IsTrue (nat_le has.oldest m && nat_le m 52)) (sym is.major) old.1.0 in (
      subst u2.Fits (sym is.minor) old.0,
      ((major.0, within has.oldest oldest class.major major.1 le), (subst (λ (found : List Entry). (pool (Some found)).Fits found) (sym is.pool) old.1.1.0, refl)),
    )

-- items that describe as many are counted as they are
counted_written : {A B : Type 0} (item : Layout BrokenKind A) (Describes : A → B → Type 0) (old new : List A) (described : List B) → (counted item).Fits old → AllZip Describes old described → All item.Fits new → AllZip Describes new described → (counted item).Fits new
unfolding number
counted_written item Describes old new described fits were all are =
    let few : length old < 65536 = fits.0 in
    let first = zip_number Describes old described were in
    let second = zip_number Describes new described are in
    (omega arith, (refl, all))

-- the parts of a class by their indices into a pool
record AreParts (found : List Entry) (class : ClassOf) (own : Own) (above : List ℕ) (raw_fields raw_methods : List RawMember) : Type 0 where
  pub flags : own.flags ≡ class.flags
  pub this_class : LeadsIn (class_at found) own.this_class class.this_class
  pub super_class : IsSuper found class.super_class own.super_class
  pub interfaces : AreClasses found class.interfaces above
  pub fit_fields : All (field found).Fits raw_fields
  pub fields : AllZip (DescribesField found) raw_fields class.fields
  pub fit_methods : All (method found).Fits raw_methods
  pub methods : AllZip (DescribesMethod found) raw_methods class.methods

abbrev raw_with : ClassOf → List Entry → Own → List ℕ → List RawMember → List RawMember → Raw
raw_with class found own interfaces fields methods = record {
  front = record { minor = class.minor; major = class.major; pool = found };
  rest = record { own = own; listed = record { interfaces = interfaces; fields = fields; methods = methods; attributes = [] } };
}

own_written : (class : ClassOf) (has : HasFile class) (own : Own) → own.flags ≡ class.flags → LeadsIn (class_at class.pool) own.this_class class.this_class → IsSuper class.pool class.super_class own.super_class
    → (lawful_own class.pool).Fits own × (class.super_class ≡ class_at class.pool own.super_class)
unfolding number
own_written class has own flags this_class super_class =
    let found = class.pool in
    let of = rest_of_file class has in
    let old = has.spelled.raw.rest.own in
    let same : old.flags ≡ own.flags = sym of.flags ∙ sym flags in
    let first : u2.Fits own.flags × HasClassFlags own.flags = subst (λ (f : ℕ). u2.Fits f × HasClassFlags f) same of.lawful.0.0 in
    let known : class_at found own.this_class ≡ class_at found old.this_class = this_class.leads ∙ sym of.this_class in
    let this : IsClassIndex found own.this_class = subst (λ (o : Option Name). IsSomeAnd o IsClassName) (sym known) of.lawful.0.1.0.1 in
    let right = subst (λ (f : ℕ). IsSuperIndex found f old.this_class old.super_class) same of.lawful.0.1.1.0.1 in
    let super = super_right found own.flags old.this_class own.this_class own.super_class class.this_class class.super_class old.super_class (no_class found (pool_of_file class has)) of.this_class this_class.leads of.super_class right super_class in
    ((first, ((this_class.small, this), ((super.2, super.0), refl))), super.1)

file_written : (class : ClassOf) (own : Own) (interfaces : List ℕ) (fields methods : List RawMember) → HasFile class → AreParts class.pool class own interfaces fields methods → (oldest : ℕ) → oldest ≤ class.major
    → (sound oldest class.pool).Fits (raw_with class class.pool own interfaces fields methods)
unfolding number
file_written class own interfaces fields methods has are oldest le =
    let found = class.pool in
    let of = rest_of_file class has in
    let listed = has.spelled.raw.rest.listed in
    let first = own_written class has own are.flags are.this_class are.super_class in
    let known = are_known found listed.interfaces class.interfaces of.lawful.1.0.0 of.interfaces in
    let one = classes_fit found class.interfaces interfaces known are.interfaces in
    let two = counted_written (field found) (DescribesField found) listed.fields fields class.fields of.lawful.1.0.1.0 of.fields are.fit_fields are.fields in
    let three = counted_written (method found) (DescribesMethod found) listed.methods methods class.methods of.lawful.1.0.1.1.0 of.methods are.fit_methods are.methods in
    let none : (counted (named found)).Fits [] = (omega arith, (refl, All-from_recursion (named found).Fits [] tt)) in
    (has.spelled.lawful.0, (front_written class has oldest le, ((first.0, ((one, (two, (three, (none, refl)))), refl)), refl)))

file_describes : (class : ClassOf) (own : Own) (interfaces : List ℕ) (fields methods : List RawMember) → HasFile class → AreParts class.pool class own interfaces fields methods → DescribesClass (raw_with class class.pool own interfaces fields methods) class
file_describes class own interfaces fields methods has are = record {
  minor = refl;
  major = refl;
  pool = refl;
  flags = sym are.flags;
  this_class = are.this_class.leads;
  super_class = (own_written class has own are.flags are.this_class are.super_class).1;
  interfaces = are.interfaces.lead;
  fields = are.fields;
  methods = are.methods;
}

pub class_written : (class : ClassOf) (index found : List Entry) (this super : ℕ) (interfaces : List ℕ) (fields methods : List code.RawMember) (attributes : List Attribute) → HasFile class → index ≡ class.pool → found ≡ class.pool → attributes ≡ [] → LeadsIn (class_at index) this class.this_class
    → IsSuper index class.super_class super → AreClasses index class.interfaces interfaces → AreRaws (field index) (DescribesField index) class.fields fields → AreRaws (method index) (DescribesMethod index) class.methods methods
    → IsFileOf class (record {
      front = record { minor = class.minor; major = class.major; pool = found };
      rest = record {
        own = record { flags = class.flags; this_class = this; super_class = super };
        listed = record { interfaces = interfaces; fields = view_members fields; methods = view_members methods; attributes = attributes };
      };
    })
class_written class index found this super interfaces fields methods attributes has is copied none this_is super_is interfaces_are fields_are methods_are =
    let own : Own = record { flags = class.flags; this_class = this; super_class = super } in
    let parts : AreParts index class own interfaces (view_members fields) (view_members methods) = record {
      flags = refl;
      this_class = this_is;
      super_class = super_is;
      interfaces = interfaces_are;
      fit_fields = fields_are.fit;
      fields = fields_are.describe;
      fit_methods = methods_are.fit;
      methods = methods_are.describe;
    } in
    let are = subst (λ (these : List Entry). AreParts these class own interfaces (view_members fields) (view_members methods)) is parts in
    let written : IsFileOf class (raw_with class class.pool own interfaces (view_members fields) (view_members methods)) = record {
      lawful = λ oldest le. file_written class own interfaces (view_members fields) (view_members methods) has are oldest le;
      describes = file_describes class own interfaces (view_members fields) (view_members methods) has are;
    } in
    let file : List Entry → List Attribute → Raw = λ entries others. record {
      front = record { minor = class.minor; major = class.major; pool = entries };
      rest = record { own = own; listed = record { interfaces = interfaces; fields = view_members fields; methods = view_members methods; attributes = others } };
    } in
    subst (λ (these : List Attribute). IsFileOf class (file found these)) (sym none) (subst (λ (these : List Entry). IsFileOf class (file these [])) (sym copied) written)

-- the spelling of such a file is a file of the class
pub spells_class : (class : ClassOf) (raw : Raw) (oldest : ℕ) (bytes : List ℕ) → (sound oldest class.pool).Fits raw → DescribesClass raw class → bytes ≡ (file oldest).spell raw → SpellsClass bytes oldest class
spells_class class raw oldest bytes fits describes text = record {
  raw = raw;
  laid_out = record { fits = sound_is_laid_out oldest class.pool raw fits; text = text };
  lawful = subst (λ (found : List Entry). (sound oldest found).Fits raw) describes.pool fits;
  described = describes;
}
