-- Fields and methods whose indices lead where those of a file lead are as lawful, and describe the same.
use Rattle.std.proofs.Common.{◌≡◌, ◌↔◌, ℕ, suc, ◌<◌, List, [], ◌∷◌, ◌++◌, length, Option, Some, None, is_some, codes, refl, sym, ap, subst, ◌∙◌, inl, inr, arith}
use Rattle.std.specs.Prelude.{IfSome, IsSome, IsSomeAnd}
use Rattle.std.specs.List.{AllByRecursion, AllZip}
use Rattle.std.specs.Option.{option_to_list}
use Rattle.std.proofs.lemmas.List.Elements.{All-from_recursion, recursion_from_All}
use Rattle.std.proofs.lemmas.Option.{none-some}
use Rattle.dj_layout.specs.Layout.{IsBytes}
use Rattle.dj_layout.specs.Parts.{number}
use Rattle.dj_layout.specs.Whole.{IsWhole}
use Rattle.dj_layout.proofs.Laws.{whole_unique}
use Rattle.dj_names.specs.declared.members.Constant.{Constant}
use Rattle.dj_names.specs.ClassNames.{IsClassName}
use Rattle.dj_names.specs.Headers.{Name}
use Rattle.dj_names.specs.Types.{Descriptor, Field}
use Rattle.dj_names.specs.Descriptors.{SpellsDescriptor, spell_descriptor, spell_type}
use Rattle.dj_pool.specs.declared.entry.Entry.{Entry}
use Rattle.dj_pool.specs.declared.raw.Attribute.{Attribute}
use Rattle.dj_pool.specs.Attributes.{contents}
use Rattle.dj_pool.specs.PoolFormat.{IsClassIndex, IsFieldText, IsMethodText, class_at, text_at}
use Rattle.dj_pool.specs.SharedParts.{attribute, counted, u2}
use Rattle.dj_pool.proofs.AttributeContents.{contents_named, contents_other}
use Rattle.dj_pool.proofs.SharedAreExact.{exact-counted, exact-u2}
use Rattle.dj_class.specs.Described.{DescribesField, DescribesMethod, FieldOf, IsConstant, IsThrown, MethodOf}
use Rattle.dj_class.specs.FileFormat.{HasBodyAs, HasFieldFlags, HasOneAccess, IsConstantIndex, IsBodiless, IsConstantValue, IsExceptions, LeadsTo, class_indices, counted_in_turn, field, index_of, lawful_in_field, lawful_in_method, method}
use Rattle.dj_class.proofs.FileIsFiner.{classes_plain, method_attributes_plain}
use Rattle.dj_write.specs.Found.{IsLed, constant_at}
use Rattle.dj_write.specs.Written.{AreClasses, AreOfField, AreOfMethod, HasClasses, HasCodeName, HasConstant, HasThrown, IsDescribed, IsExceptionsContent, LeadsIn, PushesCode, PushesExceptions}
use Rattle.dj_write.proofs.AttributeParts.{IsThere, attribute_fits, each_in_turn, index_back, index_bytes, index_long, indices_bytes, indices_long, named_there, same_tag}

-- ---- names and descriptors

pub on_some : {A : Type 0} (P : A → Type 0) (o : Option A) (x : A) → o ≡ Some x → P x → IsSomeAnd o P
on_some P o x is holds = rw is holds

some_there : {A : Type 0} (o : Option A) (x : A) → o ≡ Some x → IsSome o
some_there o x is = ap is_some is

-- a text that spells the descriptor is its one spelling
pub spelled_at : (o : Option (List ℕ)) (descriptor : Descriptor) → IsSomeAnd o (λ units. SpellsDescriptor units descriptor) → o ≡ Some (spell_descriptor descriptor)
spelled_at None descriptor spells = absurd spells
spelled_at (Some units) descriptor spells = ap Some (sym spells.spelled)

-- the same text is of the same kind
same_text : (P : List ℕ → Type 0) (a b : Option (List ℕ)) (units : List ℕ) → a ≡ Some units → b ≡ Some units → IsSomeAnd a P → IsSomeAnd b P
same_text P a b units first second holds = subst (λ (o : Option (List ℕ)). IsSomeAnd o P) (first ∙ sym second) holds

-- ---- constants

-- what an attribute of a field has
abbrev IsOfField : List Entry → ℕ → Attribute → Type 0
IsOfField pool descriptor a = attribute.Fits a × (text_at pool a.name ≡ Some (codes "ConstantValue") → IsConstantValue pool descriptor a.content)

module _ (pool : List Entry) (descriptor : ℕ) where
  constants_there : (attributes : List Attribute) → (counted_in_turn (lawful_in_field pool descriptor)).Fits attributes → AllByRecursion (IsOfField pool descriptor) attributes
  constants_there attributes fits = each_in_turn _ (IsOfField pool descriptor) (lawful_in_field pool descriptor) (λ before a h. (h.0.0, h.1.right)) [] attributes fits.1.0

  -- the ConstantValue of a file
  pub constant_there : (attributes : List Attribute) (one : Constant) (found : List (List ℕ)) → contents pool (codes "ConstantValue") attributes ≡ found → (counted_in_turn (lawful_in_field pool descriptor)).Fits attributes → IsConstant pool found (Some one)
      → (content : List ℕ) × (constant_at pool (index_of content) ≡ Some one) × IsThere pool (IsOfField pool descriptor) (codes "ConstantValue") content
  constant_there attributes one [] are fits is = absurd (none-some one (sym is))
  constant_there attributes one (content ∷ []) are fits is = (content, sym is, named_there pool (IsOfField pool descriptor) (codes "ConstantValue") content [] attributes (constants_there attributes fits) are)
  constant_there attributes one (content ∷ other ∷ others) are fits is = absurd is

  pub constant_known : (attributes : List Attribute) (value : Option Constant) → (counted_in_turn (lawful_in_field pool descriptor)).Fits attributes → IsConstant pool (contents pool (codes "ConstantValue") attributes) value → HasConstant pool value
  constant_known attributes None fits is = tt
  constant_known attributes (Some one) fits is =
      let found = constant_there attributes one (contents pool (codes "ConstantValue") attributes) refl fits is in
      (record { index = found.2.this.name; leads = found.2.named }, record { index = index_of found.0; leads = found.1 })

  -- an index of the constant is as right as the one that the file has
  pub constant_right : (attributes : List Attribute) (one : Constant) (units : List ℕ) (other index : ℕ) → (counted_in_turn (lawful_in_field pool descriptor)).Fits attributes
      → IsConstant pool (contents pool (codes "ConstantValue") attributes) (Some one) → text_at pool descriptor ≡ Some units → text_at pool other ≡ Some units → constant_at pool index ≡ Some one → IsConstantIndex pool other index
  constant_right attributes one units other index fits is spelled also leads =
      let found = constant_there attributes one (contents pool (codes "ConstantValue") attributes) refl fits is in
      let there = found.2 in
      let value = there.holds.1 there.named in
      let right = value.leads in
      let same_place : index_of there.this.content ≡ index_of found.0 = ap index_of there.same in
      record {
        units = right.units;
        at_descriptor = also ∙ sym spelled ∙ right.at_descriptor;
        type = right.type;
        spelled = right.spelled;
        tag = right.tag;
        of_type = right.of_type;
        there = same_tag pool right.tag one (index_of there.this.content) index (ap (constant_at pool) same_place ∙ found.1) leads right.there;
      }

-- ---- fields

pub field_name : (pool : List Entry) (f : FieldOf) → IsDescribed (field pool) (DescribesField pool) f → IsLed (text_at pool) f.name
field_name pool f described = record { index = described.raw.name; leads = described.describes.name }

pub field_type : (pool : List Entry) (f : FieldOf) → IsDescribed (field pool) (DescribesField pool) f → IsLed (text_at pool) (spell_type f.descriptor)
field_type pool f described = record { index = described.raw.descriptor; leads = spelled_at (text_at pool described.raw.descriptor) (Field f.descriptor) described.describes.descriptor }

pub field_constant : (pool : List Entry) (f : FieldOf) → IsDescribed (field pool) (DescribesField pool) f → HasConstant pool f.constant
field_constant pool f described = constant_known pool described.raw.descriptor described.raw.attributes f.constant described.fits.1.1.1.0 described.describes.constant

-- the attributes of a field, from the index of its constant
constant_attributes : (pool : List Entry) (descriptor : ℕ) (value : Option Constant) (attributes : List Attribute) → AreOfField pool value attributes
    → ((one : Constant) (index : ℕ) → value ≡ Some one → constant_at pool index ≡ Some one → IsConstantIndex pool descriptor index)
    → (counted_in_turn (lawful_in_field pool descriptor)).Fits attributes × IsConstant pool (contents pool (codes "ConstantValue") attributes) value
unfolding number
constant_attributes pool descriptor None attributes are right = rw are ((omega arith, (tt, refl)), refl)
constant_attributes pool descriptor (Some one) attributes (content, is, pushed) right =
    let index = is.index in
    let this : Attribute = record { name = pushed.index; content = content } in
    let back : index_of content ≡ index = ap index_of is.spelled ∙ index_back index is.leads.small in
    let long : length content ≡ 2 = ap length is.spelled ∙ index_long index in
    let fits : attribute.Fits this = attribute_fits pushed.index content pushed.named.small (omega arith) (subst IsBytes (sym is.spelled) (index_bytes index)) in
    let value : IsConstantValue pool descriptor content = record { long = long; leads = subst (IsConstantIndex pool descriptor) (sym back) (right one index refl is.leads.leads) } in
    let lawful : (lawful_in_field pool descriptor []).Fits this =
    ((fits, some_there (text_at pool pushed.index) (codes "ConstantValue") pushed.named.leads), record { first = λ _. refl; right = λ _. value }) in
    let held : contents pool (codes "ConstantValue") (this ∷ []) ≡ content ∷ [] = contents_named pool (codes "ConstantValue") [] this pushed.named.leads in
    let leads : IsConstant pool (content ∷ []) (Some one) = sym (ap (constant_at pool) back ∙ is.leads.leads) in
    subst (λ (these : List Attribute). (counted_in_turn (lawful_in_field pool descriptor)).Fits these × IsConstant pool (contents pool (codes "ConstantValue") these) (Some one)) (sym pushed.pushed)
    ((omega arith, ((refl, lawful, tt), refl)), subst (λ (found : List (List ℕ)). IsConstant pool found (Some one)) (sym held) leads)

pub field_written : (pool : List Entry) (f : FieldOf) (name descriptor : ℕ) (attributes : List Attribute) → IsDescribed (field pool) (DescribesField pool) f → LeadsIn (text_at pool) name f.name
    → LeadsIn (text_at pool) descriptor (spell_type f.descriptor) → AreOfField pool f.constant attributes
    → (field pool).Fits (record { flags = f.flags; name = name; descriptor = descriptor; attributes = attributes }) × DescribesField pool (record { flags = f.flags; name = name; descriptor = descriptor; attributes = attributes }) f
unfolding number
field_written pool f name descriptor attributes described named spelled are =
    let old = described.raw in
    let was : text_at pool old.descriptor ≡ Some (spell_type f.descriptor) = spelled_at (text_at pool old.descriptor) (Field f.descriptor) described.describes.descriptor in
    let held = constant_attributes pool descriptor f.constant attributes are (λ one index is leads.
    constant_right pool old.descriptor old.attributes one (spell_type f.descriptor) descriptor index described.fits.1.1.1.0 (subst (IsConstant pool (contents pool (codes "ConstantValue") old.attributes)) is described.describes.constant) was spelled.leads leads) in (
      (
        subst (λ (flags : ℕ). u2.Fits flags × HasFieldFlags flags) (sym described.describes.flags) described.fits.0,
        ((named.small, some_there (text_at pool name) f.name named.leads), ((spelled.small, same_text IsFieldText (text_at pool old.descriptor) (text_at pool descriptor) (spell_type f.descriptor) was spelled.leads described.fits.1.1.0.1), (held.0, refl))),
      ),
      record {
        flags = refl;
        name = named.leads;
        descriptor = same_text (λ units. SpellsDescriptor units (Field f.descriptor)) (text_at pool old.descriptor) (text_at pool descriptor) (spell_type f.descriptor) was spelled.leads described.describes.descriptor;
        constant = held.1;
      },
    )

-- ---- classes by their indices

-- each is a class's name that some index leads to
abbrev KnownClass : List Entry → Name → Type 0
KnownClass pool name = IsClassName name × IsLed (class_at pool) name

class_known : (pool : List Entry) (index : ℕ) (name : Name) → IsClassIndex pool index → LeadsTo pool index name → KnownClass pool name
class_known pool index name class leads = (subst (λ (o : Option Name). IsSomeAnd o IsClassName) leads class, record { index = index; leads = leads })

classes_known : (pool : List Entry) (indices : List ℕ) (names : List Name) → AllByRecursion (λ index. u2.Fits index × IsClassIndex pool index) indices → AllZip (LeadsTo pool) indices names → AllByRecursion (KnownClass pool) names
classes_known pool [] [] all each = tt
classes_known pool [] (name ∷ names) all each = absurd each
classes_known pool (index ∷ indices) [] all each = absurd each
classes_known pool (index ∷ indices) (name ∷ names) all each = (class_known pool index name all.0.1 each.0, classes_known pool indices names all.1 each.1)

-- as many are related as there are
pub zip_number : {A B : Type 0} (R : A → B → Type 0) (xs : List A) (ys : List B) → AllZip R xs ys → length ys ≡ length xs
zip_number R [] [] each = refl
zip_number R [] (y ∷ ys) each = absurd each
zip_number R (x ∷ xs) [] each = absurd each
zip_number R (x ∷ xs) (y ∷ ys) each = ap suc (zip_number R xs ys each.1)

-- the classes that a file has indices of
pub record AreKnown (pool : List Entry) (names : List Name) : Type 0 where
  pub few : length names < 65536
  pub each : AllByRecursion (KnownClass pool) names

pub are_known : (pool : List Entry) (indices : List ℕ) (names : List Name) → (class_indices pool).Fits indices → AllZip (LeadsTo pool) indices names → AreKnown pool names
unfolding number
are_known pool indices names fits each =
    let few : length indices < 65536 = fits.0 in
    let as_many = zip_number (LeadsTo pool) indices names each in
    record { few = omega arith; each = classes_known pool indices names (recursion_from_All (λ index. u2.Fits index × IsClassIndex pool index) indices fits.1.1) each }

led_classes : (pool : List Entry) (names : List Name) → AllByRecursion (KnownClass pool) names → AllByRecursion (IsLed (class_at pool)) names
led_classes pool [] all = tt
led_classes pool (name ∷ names) all = (all.0.1, led_classes pool names all.1)

pub has_classes : (pool : List Entry) (names : List Name) → AreKnown pool names → HasClasses pool names
has_classes pool names known = record { few = known.few; each = All-from_recursion (IsLed (class_at pool)) names (led_classes pool names known.each) }

class_index : (pool : List Entry) (index : ℕ) (name : Name) → IsClassName name → LeadsTo pool index name → IsClassIndex pool index
class_index pool index name class leads = on_some IsClassName (class_at pool index) name leads class

classes_right : (pool : List Entry) (indices : List ℕ) (names : List Name) → AllByRecursion (λ index. index < 65536) indices → AllByRecursion (KnownClass pool) names → AllZip (LeadsTo pool) indices names
    → AllByRecursion (λ index. u2.Fits index × IsClassIndex pool index) indices
unfolding number
classes_right pool [] [] small known each = tt
classes_right pool [] (name ∷ names) small known each = absurd each
classes_right pool (index ∷ indices) [] small known each = absurd each
classes_right pool (index ∷ indices) (name ∷ names) small known each = ((small.0, class_index pool index name known.0.0 each.0), classes_right pool indices names small.1 known.1 each.1)

-- indices of the classes that a file has are as right
pub classes_fit : (pool : List Entry) (names : List Name) (indices : List ℕ) → AreKnown pool names → AreClasses pool names indices → (class_indices pool).Fits indices
unfolding number
classes_fit pool names indices known are =
    let as_many = zip_number (LeadsTo pool) indices names are.lead in
    let few = known.few in
    let all = classes_right pool indices names (recursion_from_All (λ index. index < 65536) indices are.small) known.each are.lead in
    (omega arith, (refl, All-from_recursion (λ index. u2.Fits index × IsClassIndex pool index) indices all))

-- ---- methods

-- the content of an attribute that is laid out
pub record HasContent (content : List ℕ) : Type 0 where
  pub long : length content < 4294967296
  pub bytes : IsBytes content

-- the content of an Exceptions that is written
pub record IsRight (pool : List Entry) (thrown : List Name) (content : List ℕ) : Type 0 where
  pub bytes : HasContent content
  pub right : IsExceptions pool content
  pub thrown_is : IsThrown pool (content ∷ []) thrown

-- the attributes of a method with this code that throws these
pub record AreWritten (pool : List Entry) (code : Option (List ℕ)) (thrown : List Name) (attributes : List Attribute) : Type 0 where
  pub in_turn : (counted_in_turn (lawful_in_method pool)).Fits attributes
  pub code_is : contents pool (codes "Code") attributes ≡ option_to_list code
  pub thrown_is : IsThrown pool (contents pool (codes "Exceptions") attributes) thrown

-- what an attribute of a method has
abbrev IsOfMethod : List Entry → Attribute → Type 0
IsOfMethod pool a = attribute.Fits a × (text_at pool a.name ≡ Some (codes "Exceptions") → IsExceptions pool a.content)

module _ (pool : List Entry) where
  each_of_method : (attributes : List Attribute) → (counted_in_turn (lawful_in_method pool)).Fits attributes → AllByRecursion (IsOfMethod pool) attributes
  each_of_method attributes fits = each_in_turn _ (IsOfMethod pool) (lawful_in_method pool) (λ before a h. (h.0.0, h.1.right)) [] attributes fits.1.0

  code_there : (content : List ℕ) (there : IsThere pool (IsOfMethod pool) (codes "Code") content) → HasContent content
  unfolding number
  code_there content there = record { long = subst (λ (held : List ℕ). length held < 4294967296) there.same there.holds.0.1.0.0; bytes = subst IsBytes there.same there.holds.0.1.0.1.1 }

  -- the classes that a method of a file throws
  thrown_there : (content : List ℕ) (thrown : List Name) → IsThere pool (IsOfMethod pool) (codes "Exceptions") content → IsThrown pool (content ∷ []) thrown → AreKnown pool thrown
  thrown_there content thrown there (indices, whole, each) =
      let right = there.holds.1 there.named in
      let again : IsWhole (counted u2) content right.indices = record { fits = classes_plain pool right.indices right.content_is.fits; text = sym there.same ∙ right.content_is.text } in
      let same = whole_unique (counted u2) (exact-counted u2 exact-u2) content right.indices indices again whole in
      are_known pool indices thrown (subst (class_indices pool).Fits same right.content_is.fits) each

  code_known : (attributes : List Attribute) (code : Option (List ℕ)) → (counted_in_turn (lawful_in_method pool)).Fits attributes → contents pool (codes "Code") attributes ≡ option_to_list code → HasCodeName pool code × IfSome code HasContent
  code_known attributes None fits is = (tt, tt)
  code_known attributes (Some content) fits is =
      let there = named_there pool (IsOfMethod pool) (codes "Code") content [] attributes (each_of_method attributes fits) is in
      (record { index = there.this.name; leads = there.named }, code_there content there)

  thrown_known : (attributes : List Attribute) (thrown : List Name) (found : List (List ℕ)) → contents pool (codes "Exceptions") attributes ≡ found → (counted_in_turn (lawful_in_method pool)).Fits attributes → IsThrown pool found thrown
      → HasThrown pool thrown × AreKnown pool thrown
  thrown_known attributes thrown [] are fits is =
      let none : AreKnown pool [] = record { few = omega arith; each = tt } in
      rw is (record { named = λ some. absurd (some refl); classes = has_classes pool [] none }, none)
  thrown_known attributes thrown (content ∷ []) are fits is =
      let there = named_there pool (IsOfMethod pool) (codes "Exceptions") content [] attributes (each_of_method attributes fits) are in
      let known = thrown_there content thrown there is in
      (record { named = λ _. record { index = there.this.name; leads = there.named }; classes = has_classes pool thrown known }, known)
  thrown_known attributes thrown (content ∷ other ∷ others) are fits is = absurd is

  two_names : (o : Option (List ℕ)) → o ≡ Some (codes "Code") → o ≡ Some (codes "Exceptions") → ⊥
  two_names o p q = let both : Some (codes "Code") ≡ Some (codes "Exceptions") = sym p ∙ q in absurd cc

  code_lawful : (a : Attribute) → attribute.Fits a → text_at pool a.name ≡ Some (codes "Code") → (lawful_in_method pool []).Fits a
  code_lawful a fits named = (
    (fits, some_there (text_at pool a.name) (codes "Code") named),
    record { first_code = λ _. refl; first_exceptions = λ _. refl; right = λ also. absurd (two_names (text_at pool a.name) named also) },
  )

  exceptions_lawful : (before : List Attribute) (a : Attribute) → attribute.Fits a → text_at pool a.name ≡ Some (codes "Exceptions") → contents pool (codes "Exceptions") before ≡ [] → IsExceptions pool a.content → (lawful_in_method pool before).Fits a
  exceptions_lawful before a fits named none right = (
    (fits, some_there (text_at pool a.name) (codes "Exceptions") named),
    record { first_code = λ also. absurd (two_names (text_at pool a.name) also named); first_exceptions = λ _. none; right = λ _. right },
  )

  exceptions_right : (thrown : List Name) (content : List ℕ) → AreKnown pool thrown → IsExceptionsContent pool thrown content → IsRight pool thrown content
  exceptions_right thrown content known is =
      let indices = is.indices in
      let few = known.few in
      let as_many = zip_number (LeadsTo pool) indices thrown is.lead.lead in
      let long = ap length is.spelled ∙ indices_long indices in
      let fits = classes_fit pool thrown indices known is.lead in
      record {
        bytes = record { long = omega arith; bytes = subst IsBytes (sym is.spelled) (indices_bytes indices) };
        right = record { indices = indices; content_is = record { fits = fits; text = is.spelled } };
        thrown_is = (indices, record { fits = classes_plain pool indices fits; text = is.spelled }, is.lead.lead);
      }

  none_written : (thrown : List Name) → thrown ≡ [] → AreWritten pool None thrown []
  unfolding number
  none_written thrown none = record { in_turn = (omega arith, (tt, refl)); code_is = refl; thrown_is = none }

  code_written : (thrown : List Name) (c : Attribute) → attribute.Fits c → text_at pool c.name ≡ Some (codes "Code") → thrown ≡ [] → AreWritten pool (Some c.content) thrown (c ∷ [])
  unfolding number
  code_written thrown c fits named none = record {
    in_turn = (omega arith, ((refl, code_lawful c fits named, tt), refl));
    code_is = contents_named pool (codes "Code") [] c named;
    thrown_is = subst (λ (found : List (List ℕ)). IsThrown pool found thrown) (sym (contents_other pool (codes "Exceptions") [] c (two_names (text_at pool c.name) named))) none;
  }

  exceptions_written : (thrown : List Name) (e : Attribute) → attribute.Fits e → text_at pool e.name ≡ Some (codes "Exceptions") → IsRight pool thrown e.content → AreWritten pool None thrown (e ∷ [])
  unfolding number
  exceptions_written thrown e fits named right = record {
    in_turn = (omega arith, ((refl, exceptions_lawful [] e fits named refl right.right, tt), refl));
    code_is = contents_other pool (codes "Code") [] e (λ also. two_names (text_at pool e.name) also named);
    thrown_is = subst (λ (found : List (List ℕ)). IsThrown pool found thrown) (sym (contents_named pool (codes "Exceptions") [] e named)) right.thrown_is;
  }

  both_written : (thrown : List Name) (c e : Attribute) → attribute.Fits c → attribute.Fits e → text_at pool c.name ≡ Some (codes "Code") → text_at pool e.name ≡ Some (codes "Exceptions") → IsRight pool thrown e.content
      → AreWritten pool (Some c.content) thrown (c ∷ e ∷ [])
  unfolding number
  both_written thrown c e c_fits e_fits code named right =
      let none : contents pool (codes "Exceptions") (c ∷ []) ≡ [] = contents_other pool (codes "Exceptions") [] c (two_names (text_at pool c.name) code) in
      let one : contents pool (codes "Exceptions") (c ∷ e ∷ []) ≡ e.content ∷ [] = contents_named pool (codes "Exceptions") (c ∷ []) e named ∙ ap (λ (found : List (List ℕ)). found ++ e.content ∷ []) none in
      record {
        in_turn = (omega arith, ((refl, code_lawful c c_fits code, (refl, exceptions_lawful (c ∷ []) e e_fits named none right.right, tt)), refl));
        code_is = contents_other pool (codes "Code") (c ∷ []) e (λ also. two_names (text_at pool e.name) also named) ∙ contents_named pool (codes "Code") [] c code;
        thrown_is = subst (λ (found : List (List ℕ)). IsThrown pool found thrown) (sym one) right.thrown_is;
      }

  attributes_written : (code : Option (List ℕ)) (thrown : List Name) (first attributes : List Attribute) → IfSome code HasContent → AreKnown pool thrown → PushesCode pool code [] first → PushesExceptions pool thrown first attributes
      → AreWritten pool code thrown attributes
  attributes_written None thrown first attributes has known is (inl (none, same)) = subst (AreWritten pool None thrown) (sym (same ∙ is)) (none_written thrown none)
  attributes_written None thrown first attributes has known is (inr (held, held_is, pushed)) =
      let e : Attribute = record { name = pushed.index; content = held } in
      let right = exceptions_right thrown held known held_is in
      subst (AreWritten pool None thrown) (sym (pushed.pushed ∙ ap (λ (before : List Attribute). before ++ e ∷ []) is))
      (exceptions_written thrown e (attribute_fits pushed.index held pushed.named.small right.bytes.long right.bytes.bytes) pushed.named.leads right)
  attributes_written (Some content) thrown first attributes has known is (inl (none, same)) =
      let c : Attribute = record { name = is.index; content = content } in
      subst (AreWritten pool (Some content) thrown) (sym (same ∙ is.pushed)) (code_written thrown c (attribute_fits is.index content is.named.small has.long has.bytes) is.named.leads none)
  attributes_written (Some content) thrown first attributes has known is (inr (held, held_is, pushed)) =
      let c : Attribute = record { name = is.index; content = content } in
      let e : Attribute = record { name = pushed.index; content = held } in
      let right = exceptions_right thrown held known held_is in
      subst (AreWritten pool (Some content) thrown) (sym (pushed.pushed ∙ ap (λ (before : List Attribute). before ++ e ∷ []) is.pushed))
      (both_written thrown c e (attribute_fits is.index content is.named.small has.long has.bytes) (attribute_fits pushed.index held pushed.named.small right.bytes.long right.bytes.bytes) is.named.leads pushed.named.leads right)

  pub method_name : (m : MethodOf) → IsDescribed (method pool) (DescribesMethod pool) m → IsLed (text_at pool) m.name
  method_name m described = record { index = described.raw.name; leads = described.describes.name }

  pub method_descriptor : (m : MethodOf) → IsDescribed (method pool) (DescribesMethod pool) m → IsLed (text_at pool) (spell_descriptor m.descriptor)
  method_descriptor m described = record { index = described.raw.descriptor; leads = spelled_at (text_at pool described.raw.descriptor) m.descriptor described.describes.descriptor }

  pub method_code : (m : MethodOf) → IsDescribed (method pool) (DescribesMethod pool) m → HasCodeName pool m.code × IfSome m.code HasContent
  method_code m described = code_known described.raw.attributes m.code described.fits.1.1.1.0.1 described.describes.code

  pub method_thrown : (m : MethodOf) → IsDescribed (method pool) (DescribesMethod pool) m → HasThrown pool m.thrown × AreKnown pool m.thrown
  method_thrown m described = thrown_known described.raw.attributes m.thrown (contents pool (codes "Exceptions") described.raw.attributes) refl described.fits.1.1.1.0.1 described.describes.thrown

  pub method_written : (m : MethodOf) (name descriptor : ℕ) (attributes : List Attribute) → IsDescribed (method pool) (DescribesMethod pool) m → LeadsIn (text_at pool) name m.name
      → LeadsIn (text_at pool) descriptor (spell_descriptor m.descriptor) → AreOfMethod pool m.code m.thrown attributes
      → (method pool).Fits (record { flags = m.flags; name = name; descriptor = descriptor; attributes = attributes }) × DescribesMethod pool (record { flags = m.flags; name = name; descriptor = descriptor; attributes = attributes }) m
  unfolding number
  method_written m name descriptor attributes described named spelled are =
      let old = described.raw in
      let was : text_at pool old.descriptor ≡ Some (spell_descriptor m.descriptor) = spelled_at (text_at pool old.descriptor) m.descriptor described.describes.descriptor in
      let held = attributes_written m.code m.thrown are.first attributes (method_code m described).1 (method_thrown m described).1 are.code_is are.thrown_are in
      let same : contents pool (codes "Code") attributes ≡ contents pool (codes "Code") old.attributes = held.code_is ∙ sym described.describes.code in
      let body : HasBodyAs pool old.flags attributes = subst (λ (found : List (List ℕ)). (found ≡ []) ↔ IsBodiless old.flags) (sym same) described.fits.1.1.1.0.0.1 in (
        (
          subst (λ (flags : ℕ). u2.Fits flags × HasOneAccess flags) (sym described.describes.flags) described.fits.0,
          (
            (named.small, some_there (text_at pool name) m.name named.leads),
            (
              (spelled.small, same_text IsMethodText (text_at pool old.descriptor) (text_at pool descriptor) (spell_descriptor m.descriptor) was spelled.leads described.fits.1.1.0.1),
              (((method_attributes_plain pool attributes held.in_turn, subst (λ (flags : ℕ). HasBodyAs pool flags attributes) (sym described.describes.flags) body), held.in_turn), refl),
            ),
          ),
        ),
        record {
          flags = refl;
          name = named.leads;
          descriptor = same_text (λ units. SpellsDescriptor units m.descriptor) (text_at pool old.descriptor) (text_at pool descriptor) (spell_descriptor m.descriptor) was spelled.leads described.describes.descriptor;
          code = held.code_is;
          thrown = held.thrown_is;
        },
      )
