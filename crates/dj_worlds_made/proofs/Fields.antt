-- What class files say of superclasses and of the constants of fields.
use Rattle.std.proofs.Common.{◌≡◌, ◌≢◌, ℕ, zero, suc, Bool, true, false, List, [], ◌∷◌, ◌++◌, Contains, Option, Some, None, inl, inr, refl, sym, ap, subst, ◌∙◌, arith, ℤ}
use Rattle.std.specs.Prelude.{if◌then◌else◌, map, filter, codes, slice_get, IsSomeAnd, bytes_eq, cond}
use Rattle.std.specs.List.{AllZip}
use Rattle.std.specs.Option.{option_and_then}
use Rattle.std.proofs.lemmas.Slice.Eq.{bytes_eq-Decides}
use Rattle.std.proofs.lemmas.List.Elements.{All-contains}
use Rattle.dj_layout.specs.Layout.{Layout}
use Rattle.dj_layout.specs.Passes.{IsSequence}
use Rattle.dj_names.specs.declared.members.Constant.{Constant}
use Rattle.dj_names.specs.declared.members.Constant.TheVariants as constant
use Rattle.dj_names.specs.Headers.{Name}
use Rattle.dj_names.specs.Types as types
use Rattle.dj_names.specs.Types.{JType, Boolean, Byte, Char, Short, Float, Double, Class, Array, Descriptor, Field}
use Rattle.dj_names.specs.Assignable.{object_name}
use Rattle.dj_names.specs.ClassNames.{IsClassName}
use Rattle.dj_names.specs.Descriptors.{SpellsDescriptor}
use Rattle.dj_names.proofs.DescriptorLemmas.{one_spelled}
use Rattle.dj_pool.specs.declared.fault.BrokenKind.{BrokenKind}
use Rattle.dj_pool.specs.declared.raw.Attribute.{Attribute}
use Rattle.dj_pool.specs.declared.entry.Entry.{Entry}
use Rattle.dj_pool.specs.declared.entry.Entry.TheVariants as entry
use Rattle.dj_pool.specs.Attributes.{is_name, contents}
use Rattle.dj_pool.specs.PoolFormat.{tag_of, text_at, class_at}
use Rattle.dj_class.specs.Members.{RawMember}
use Rattle.dj_class.specs.FileFormat.{IsSuperIndex, constant_tag, index_of, lawful_in_field, field}
use Rattle.dj_class.specs.Described.{FieldOf, ClassOf, constant_of, IsConstant, DescribesField, SpellsClass}
use Rattle.dj_held.specs.Running.{FitsField}

some_is : {A : Type 0} (P : A → Type 0) (found : Option A) → IsSomeAnd found P → (one : A) × (found ≡ Some one) × P one
some_is P None none = absurd none
some_is P (Some one) holds = (one, refl, holds)

-- ---- superclasses

-- a class file names a superclass, but for Object's
pub superclass_named : (bytes : List ℕ) (oldest : ℕ) (class : ClassOf) → SpellsClass bytes oldest class → class.this_class ≢ object_name → (upper : Name) × (class.super_class ≡ Some upper)
superclass_named bytes oldest class spells other = elim super.some_class [
  | inl object ↦ absurd (other (one (sym spells.described.this_class ∙ object.1)))
  | inr index ↦ (let found = some_is IsClassName (class_at spells.raw.front.pool spells.raw.rest.own.super_class) index in (found.0, spells.described.super_class ∙ found.1))
]
  where
    super : IsSuperIndex spells.raw.front.pool spells.raw.rest.own.flags spells.raw.rest.own.this_class spells.raw.rest.own.super_class
    super = spells.lawful.1.1.0.0.1.1.0.1

    one : Some class.this_class ≡ Some object_name → class.this_class ≡ object_name
    one e = cc

-- ---- attributes

-- each attribute is lawful behind some
lawful_among : {A : Type 0} (enough : List A → Bool) (next : List A → Layout BrokenKind A) (before list : List A) (one : A) → IsSequence enough next before list → Contains list one → (front : List A) × (next front).Fits one
lawful_among enough next before [] one fits (k, within, is) = absurd (omega (arith, within))
lawful_among {A} enough next before (first ∷ rest) one fits (zero, within, is) = (before, subst (λ (x : A). (next before).Fits x) is fits.1)
lawful_among enough next before (first ∷ rest) one fits (suc k, within, is) = lawful_among enough next (before ++ first ∷ []) rest one fits.2 (k, omega (arith, within), is)

-- what is the content of an attribute of a name
pub record IsContentOf (pool : List Entry) (name : List ℕ) (attributes : List Attribute) (content : List ℕ) : Type 0 where
  pub one : Attribute
  pub there : Contains attributes one
  pub named : text_at pool one.name ≡ Some name
  pub is : one.content ≡ content

named_so : (name : List ℕ) (found : Option (List ℕ)) → is_name name found ≡ true → found ≡ Some name
named_so name None e = absurd (cc)
named_so name (Some units) e = ap Some ((bytes_eq-Decides units name).0 e)

content_of : (pool : List Entry) (name : List ℕ) (attributes : List Attribute) (content : List ℕ) (others : List (List ℕ)) → contents pool name attributes ≡ content ∷ others → IsContentOf pool name attributes content
content_of pool name [] content others e = absurd (cc)
content_of pool name (first ∷ rest) content others e = by (is_name name (text_at pool first.name)) refl e (content_of pool name rest content others)
  where
    here : first.content ∷ contents pool name rest ≡ content ∷ others → first.content ≡ content
    here e = cc

    by : (test : Bool) → is_name name (text_at pool first.name) ≡ test → map (λ (a : Attribute). a.content) (cond test (first ∷ filter (λ (a : Attribute). is_name name (text_at pool a.name)) rest) (filter (λ (a : Attribute). is_name name (text_at pool a.name)) rest)) ≡ content ∷ others
        → (contents pool name rest ≡ content ∷ others → IsContentOf pool name rest content) → IsContentOf pool name (first ∷ rest) content
    by true same e later = record { one = first; there = (0, omega arith, refl); named = named_so name (text_at pool first.name) same; is = here e }
    by false differ e later =
        let found = later e in
        record { one = found.one; there = (let (k, within, is) = found.there in (suc k, omega (arith, within), is)); named = found.named; is = found.is }

-- ---- constants

-- a string's type
is_string : (name : List ℕ) (test : Bool) → bytes_eq name (codes "java/lang/String") ≡ test → (tag : ℕ) → (if test then Some 8 else None) ≡ Some tag → (name ≡ codes "java/lang/String") × (tag ≡ 8)
is_string name true same tag e = ((bytes_eq-Decides name (codes "java/lang/String")).0 same, cc)
is_string name false differ tag e = absurd (cc)

eight : {P : Type 0} (tag : ℕ) → tag ≡ 8 → ¬ (tag ≡ 8) → P
eight tag is isnt = absurd (isnt is)

-- one tag isn't another
other_tag : {P : Type 0} (one other : ℕ) → Some one ≡ Some other → (one ≡ other → ⊥) → P
other_tag one other e differ = absurd (differ (let s : one ≡ other = cc in s))

-- an int's constant is of a type of ints
int_fits : (type : JType) → constant_tag type ≡ Some 3 → (number : ℤ) → FitsField type (constant.Int number)
int_fits Boolean e number = refl
int_fits Byte e number = refl
int_fits Char e number = refl
int_fits Short e number = refl
int_fits types.Int e number = refl
int_fits types.Long e number = other_tag 5 3 e (λ s. omega (arith, s))
int_fits Float e number = other_tag 4 3 e (λ s. omega (arith, s))
int_fits Double e number = other_tag 6 3 e (λ s. omega (arith, s))
int_fits (Class name) e number = absurd (let s = (is_string name (bytes_eq name (codes "java/lang/String")) refl 3 e).1 in omega (arith, s))
int_fits (Array element) e number = absurd (cc)

float_fits : (type : JType) → constant_tag type ≡ Some 4 → type ≡ Float
float_fits Boolean e = other_tag 3 4 e (λ s. omega (arith, s))
float_fits Byte e = other_tag 3 4 e (λ s. omega (arith, s))
float_fits Char e = other_tag 3 4 e (λ s. omega (arith, s))
float_fits Short e = other_tag 3 4 e (λ s. omega (arith, s))
float_fits types.Int e = other_tag 3 4 e (λ s. omega (arith, s))
float_fits types.Long e = other_tag 5 4 e (λ s. omega (arith, s))
float_fits Float e = refl
float_fits Double e = other_tag 6 4 e (λ s. omega (arith, s))
float_fits (Class name) e = absurd (let s = (is_string name (bytes_eq name (codes "java/lang/String")) refl 4 e).1 in omega (arith, s))
float_fits (Array element) e = absurd (cc)

long_fits : (type : JType) → constant_tag type ≡ Some 5 → type ≡ types.Long
long_fits Boolean e = other_tag 3 5 e (λ s. omega (arith, s))
long_fits Byte e = other_tag 3 5 e (λ s. omega (arith, s))
long_fits Char e = other_tag 3 5 e (λ s. omega (arith, s))
long_fits Short e = other_tag 3 5 e (λ s. omega (arith, s))
long_fits types.Int e = other_tag 3 5 e (λ s. omega (arith, s))
long_fits types.Long e = refl
long_fits Float e = other_tag 4 5 e (λ s. omega (arith, s))
long_fits Double e = other_tag 6 5 e (λ s. omega (arith, s))
long_fits (Class name) e = absurd (let s = (is_string name (bytes_eq name (codes "java/lang/String")) refl 5 e).1 in omega (arith, s))
long_fits (Array element) e = absurd (cc)

double_fits : (type : JType) → constant_tag type ≡ Some 6 → type ≡ Double
double_fits Boolean e = other_tag 3 6 e (λ s. omega (arith, s))
double_fits Byte e = other_tag 3 6 e (λ s. omega (arith, s))
double_fits Char e = other_tag 3 6 e (λ s. omega (arith, s))
double_fits Short e = other_tag 3 6 e (λ s. omega (arith, s))
double_fits types.Int e = other_tag 3 6 e (λ s. omega (arith, s))
double_fits types.Long e = other_tag 5 6 e (λ s. omega (arith, s))
double_fits Float e = other_tag 4 6 e (λ s. omega (arith, s))
double_fits Double e = refl
double_fits (Class name) e = absurd (let s = (is_string name (bytes_eq name (codes "java/lang/String")) refl 6 e).1 in omega (arith, s))
double_fits (Array element) e = absurd (cc)

text_fits : (type : JType) → constant_tag type ≡ Some 8 → type ≡ Class (codes "java/lang/String")
text_fits Boolean e = other_tag 3 8 e (λ s. omega (arith, s))
text_fits Byte e = other_tag 3 8 e (λ s. omega (arith, s))
text_fits Char e = other_tag 3 8 e (λ s. omega (arith, s))
text_fits Short e = other_tag 3 8 e (λ s. omega (arith, s))
text_fits types.Int e = other_tag 3 8 e (λ s. omega (arith, s))
text_fits types.Long e = other_tag 5 8 e (λ s. omega (arith, s))
text_fits Float e = other_tag 4 8 e (λ s. omega (arith, s))
text_fits Double e = other_tag 6 8 e (λ s. omega (arith, s))
text_fits (Class name) e = ap Class (is_string name (bytes_eq name (codes "java/lang/String")) refl 8 e).0
text_fits (Array element) e = absurd (cc)

one_kept : (one other : Constant) → Some one ≡ Some other → one ≡ other
one_kept one other e = cc

-- a text of the pool, as a constant
text_kept : (found : Option (List ℕ)) (kept : Constant) → option_and_then (λ units. Some (constant.Text units)) found ≡ Some kept → (units : List ℕ) × (constant.Text units ≡ kept)
text_kept None kept e = absurd (cc)
text_kept (Some units) kept e = (units, one_kept (constant.Text units) kept e)

-- the constant of an entry of the tag that a type's constant has is of that type
entry_fits : (pool : List Entry) (type : JType) (found : Entry) (kept : Constant) → constant_tag type ≡ Some (tag_of found) → constant_of pool found ≡ Some kept → FitsField type kept
entry_fits pool type entry.Skip kept tagged e = absurd (cc)
entry_fits pool type (entry.Utf8 units) kept tagged e = absurd (cc)
entry_fits pool type (entry.Integer number) kept tagged e = subst (FitsField type) (one_kept (constant.Int number) kept e) (int_fits type tagged number)
entry_fits pool type (entry.Float bits) kept tagged e = subst (FitsField type) (one_kept (constant.Float bits) kept e) (float_fits type tagged)
entry_fits pool type (entry.Long number) kept tagged e = subst (FitsField type) (one_kept (constant.Long number) kept e) (long_fits type tagged)
entry_fits pool type (entry.Double bits) kept tagged e = subst (FitsField type) (one_kept (constant.Double bits) kept e) (double_fits type tagged)
entry_fits pool type (entry.Class name) kept tagged e = absurd (cc)
entry_fits pool type (entry.Text units) kept tagged e =
    let text = text_kept (text_at pool units) kept e in subst (FitsField type) text.1 (text_fits type tagged)
entry_fits pool type (entry.FieldRef class member) kept tagged e = absurd (cc)
entry_fits pool type (entry.MethodRef class member) kept tagged e = absurd (cc)
entry_fits pool type (entry.InterfaceMethodRef class member) kept tagged e = absurd (cc)
entry_fits pool type (entry.NameAndType name descriptor) kept tagged e = absurd (cc)
entry_fits pool type (entry.MethodHandle kind reference) kept tagged e = absurd (cc)
entry_fits pool type (entry.MethodType descriptor) kept tagged e = absurd (cc)
entry_fits pool type (entry.InvokeDynamic bootstrap member) kept tagged e = absurd (cc)

-- ---- fields

fields_same : (one other : JType) → Field one ≡ Field other → one ≡ other
fields_same one other e = cc

module _ (pool : List Entry) (member : RawMember) (declared : FieldOf) (fits : (field pool).Fits member) (described : DescribesField pool member declared) where
  kept_fits : (kept : Constant) → declared.constant ≡ Some kept → FitsField declared.descriptor kept
  kept_fits kept some = by (contents pool (codes "ConstantValue") member.attributes) refl described.constant
    where
      by : (found : List (List ℕ)) → contents pool (codes "ConstantValue") member.attributes ≡ found → IsConstant pool found declared.constant → FitsField declared.descriptor kept
      by [] e is = absurd (let s : None ≡ Some kept = sym is ∙ some in cc)
      by (content ∷ []) e is =
          let one = content_of pool (codes "ConstantValue") member.attributes content [] e in
          let (front, lawful) = lawful_among _ (lawful_in_field pool member.descriptor) [] member.attributes one.one fits.1.1.1.0.1.0 one.there in
          let value = lawful.1.right one.named in
          let leads = value.leads in
          let (units, at, spelled) = some_is (λ units. SpellsDescriptor units (Field declared.descriptor)) (text_at pool member.descriptor) described.descriptor in
          let same_units : leads.units ≡ units = one_units leads.units units (sym leads.at_descriptor ∙ at) in
          let same : leads.type ≡ declared.descriptor = fields_same leads.type declared.descriptor (one_spelled units (Field leads.type) (Field declared.descriptor) (subst (λ (u : List ℕ). SpellsDescriptor u (Field leads.type)) same_units leads.spelled) spelled) in
          let (found, there, tagged) = some_is (λ (found : Entry). tag_of found ≡ leads.tag) (slice_get pool (index_of one.one.content)) leads.there in
          subst (λ (type : JType). FitsField type kept) same
          (entry_fits pool leads.type found kept (leads.of_type ∙ ap Some (sym tagged)) (ap (option_and_then (constant_of pool)) (sym there) ∙ ap (λ (c : List ℕ). option_and_then (constant_of pool) (slice_get pool (index_of c))) one.is ∙ sym is ∙ some))
        where
          one_units : (first second : List ℕ) → Some first ≡ Some second → first ≡ second
          one_units first second e = cc
      by (content ∷ other ∷ others) e is = absurd is

-- each field that is described is so
all_fit : (pool : List Entry) (raws : List RawMember) (declared : List FieldOf) → ((raw : RawMember) → Contains raws raw → (field pool).Fits raw) → AllZip (DescribesField pool) raws declared
    → (one : FieldOf) → Contains declared one → (kept : Constant) → one.constant ≡ Some kept → FitsField one.descriptor kept
all_fit pool [] [] fits described one (k, within, is) kept some = absurd (omega (arith, within))
all_fit pool [] (first ∷ rest) fits described one there kept some = absurd described
all_fit pool (raw ∷ raws) [] fits described one (k, within, is) kept some = absurd (omega (arith, within))
all_fit pool (raw ∷ raws) (first ∷ rest) fits described one (zero, within, is) kept some =
    subst (λ (f : FieldOf). FitsField f.descriptor kept) is (kept_fits pool raw first (fits raw (0, omega arith, refl)) described.0 kept (subst (λ (f : FieldOf). f.constant ≡ Some kept) (sym is) some))
all_fit pool (raw ∷ raws) (first ∷ rest) fits described one (suc k, within, is) kept some =
    all_fit pool raws rest (λ other (j, inside, same). fits other (suc j, omega (arith, inside), same)) described.1 one (k, omega (arith, within), is) kept some

-- each constant of a class file is of its field's type
pub constants_fit : (bytes : List ℕ) (oldest : ℕ) (class : ClassOf) → SpellsClass bytes oldest class → (one : FieldOf) → Contains class.fields one → (kept : Constant) → one.constant ≡ Some kept → FitsField one.descriptor kept
constants_fit bytes oldest class spells one there kept some =
    all_fit spells.raw.front.pool spells.raw.rest.listed.fields class.fields
    (λ raw among. All-contains (field spells.raw.front.pool).Fits spells.raw.rest.listed.fields raw spells.lawful.1.1.0.1.0.1.0.1.1 among) spells.described.fields one there kept some
