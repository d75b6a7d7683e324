-- The unit of a class is well formed where no cause refuses the class and its bodies fit.
use Rattle.std.proofs.Common.{◌≡◌, ◌≢◌, ℕ, zero, suc, ◌+◌, ◌<◌, ◌^◌, ◌==◌, Bool, true, false, ◌||◌, IsTrue, List, [], ◌∷◌, ◌++◌, Option, Some, None, is_some, IfSome, IsSomeAnd, Any, Contains, bit_and, length, drop, map, get_or, slice_get, refl, sym, ap, subst, inl, inr, ◌∙◌, arith}
use Rattle.std.specs.Prelude.{if◌then◌else◌}
use Rattle.std.specs.Fmt.{decimal}
use Rattle.std.specs.Int.Digits.{digits_of, AllBelowBase}
use Rattle.std.specs.List.{AllByRecursion}
use Rattle.std.specs.Option.{option_to_list, option_and_then}
use Rattle.std.specs.Str.{bytes_eq}
use Rattle.std.proofs.lemmas.Bool.{cases_lt}
use Rattle.std.proofs.lemmas.Fmt.{decimal_digit, decimal-digits_of, first_decimal}
use Rattle.std.proofs.lemmas.Int.Digits.{all_below_base_digits_of}
use Rattle.std.proofs.lemmas.List.{length-map}
use Rattle.std.proofs.lemmas.Option.{same_Some, none-some}
use Rattle.dj_names.specs.declared.members.Constant.{Constant}
use Rattle.dj_names.specs.declared.members.Constant.TheVariants as constant
use Rattle.dj_names.specs.Assignable.{object_name}
use Rattle.dj_names.specs.ClassNames.{segments}
use Rattle.dj_names.specs.Headers.{Name}
use Rattle.dj_names.specs.Identifiers.{IsIdentifier, IsDigit}
use Rattle.dj_names.specs.Types.{JType, Boolean, Byte, Char, Short, Int, Long, Float, Double, Class, Array, Descriptor, Field, Method, result_of}
use Rattle.dj_class.specs.Described.{ClassOf, FieldOf, MethodOf}
use Rattle.dj_world.specs.Worlds.{WorldOf}
use Rattle.dj_world.specs.Named.{class_of, NamesClass}
use Rattle.dj_syntax.specs.Trees.{Body, CompilationUnit, FieldText, MethodText}
use Rattle.dj_syntax.specs.UnitText.{is_constructor, is_initialiser, is_interface, class_name}
use Rattle.dj_syntax.specs.WellFormed.{IsWellFormed, IsWellFormedField, IsWellFormedMethod, IsWellFormedExp, IsQualified, IsNamed, IsSuperclass, IsMethodDescriptor, IsHelperName, IsDecimalNumeral, IsInitialiser, HasMethodName, cond_type, held_class}
use Rattle.dj_syntax.proofs.MethodNames.{segments-plain, segments-append}
use Rattle.dj_signatures.specs.Signatures.{BreaksSignature, method_names}
use Rattle.dj_causes.specs.declared.cause.ClassCause.{ClassCause}
use Rattle.dj_causes.specs.declared.cause.ClassCause.TheVariants as class_cause
use Rattle.dj_causes.specs.declared.cause.FieldCause.{FieldCause}
use Rattle.dj_causes.specs.declared.cause.FieldCause.TheVariants as field_cause
use Rattle.dj_causes.specs.declared.cause.Cause.TheVariants as cause
use Rattle.dj_causes.specs.Firsts.{IsFirstWith}
use Rattle.dj_causes.specs.ClassCauses.{HasClassCause, IsOwnSaid, IsSaid, parent_names}
use Rattle.dj_causes.specs.FieldCauses.{HasFieldCause, IsUnsaidInField}
use Rattle.dj_causes.specs.BareCauses.{IsUnsaid, IsInHead}
use Rattle.dj_class_text.specs.Rethrows.{have_rethrow}
use Rattle.dj_class_text.specs.Fields.{int_value, value_of, shown_value, bare_field, field_text, ShowsFields}
use Rattle.dj_class_text.specs.Fields as fields
use Rattle.dj_class_text.specs.Methods.{bare_method, method_text, IsTextOfMethod, IsFreeOfCauses, ShowsMethods}
use Rattle.dj_class_text.specs.Methods as methods
use Rattle.dj_class_text.specs.Helpers.{methods_have_rethrow, IsFreeNumber, IsHelper}
use Rattle.dj_class_text.specs.ClassText.{IsSplit, shown_superclass, IsClassText}
use Rattle.dj_class_text.specs.Formed.{FitsConstant, IsOfMethod, IsFromFile, FitBodies}
use Rattle.dj_class_text.proofs.FlagLemmas.{class_kind_kept, class_flags_kept, field_flags_kept, method_flags_kept}
use Rattle.dj_class_text.proofs.HelperLemmas.{taken_room}
use Rattle.dj_class_text.proofs.StableLemmas.{identifier_stands, qualified_stands, sayable_qualified, named_by_class}

-- ---- pairs and lists

first_of : {A B : Type 0} → A × B → A
first_of (a, b) = a

second_of : {A B : Type 0} → A × B → B
second_of (a, b) = b

all_front : {A : Type 0} (P : A → Type 0) (front : List A) (last : A) → AllByRecursion P (front ++ last ∷ []) → AllByRecursion P front × P last
all_front P [] last all = (tt, all.0)
all_front P (first ∷ front) last all = let rest = all_front P front last all.1 in ((all.0, rest.0), rest.1)

-- the item at a place, and the rest behind it
pub head_at : {A : Type 0} (xs : List A) (at : ℕ) (x : A) (rest : List A) → drop at xs ≡ x ∷ rest → (slice_get xs at ≡ Some x) × (drop (at + 1) xs ≡ rest)
head_at [] zero x rest is = absurd cc
head_at [] (suc at) x rest is = absurd cc
head_at (y ∷ ys) zero x rest is = (cc, cc)
head_at (y ∷ ys) (suc at) x rest is =
    let below = head_at ys at x rest is in
    let next : suc (at + 1) ≡ suc at + 1 = omega arith in
    (below.0, subst (λ (n : ℕ). drop n (y ∷ ys) ≡ rest) next below.1)

-- ---- names of the class and of its parents

-- a simple name, and a package before it, of a name with segments
split_qualified : (in_package : Option Name) (simple class : Name) → IsSplit in_package simple class → IsQualified class → IfSome in_package IsQualified × IsIdentifier simple
split_qualified None simple class split whole =
    let all : AllByRecursion IsIdentifier (simple ∷ []) = subst (AllByRecursion IsIdentifier) (ap segments split.0 ∙ segments-plain simple split.1) whole in
    (tt, all.0)
split_qualified (Some in_package) simple class split whole =
    all_front IsIdentifier (segments in_package) simple (subst (AllByRecursion IsIdentifier) (ap segments split.0 ∙ segments-append in_package simple split.1) whole)

split_name : (in_package : Option Name) (simple class : Name) (unit : CompilationUnit) → unit.«package» ≡ in_package → unit.name ≡ simple → IsSplit in_package simple class → class_name unit ≡ class
split_name None simple class unit package_is name_is split = rw (package_is, name_is) (sym split.0)
split_name (Some in_package) simple class unit package_is name_is split = rw (package_is, name_is) (sym split.0)

module _ (world : WorldOf) (class : ClassOf) where
  said_qualified : (name : Name) → ¬ ¬ IsSaid world class.this_class name → IsQualified name
  said_qualified name denied = qualified_stands name (λ no. denied (λ said. no (sayable_qualified name said.unobscured.sayable)))

  parents_qualified : (parents : List Name) → ((name : Name) → ¬ IsFirstWith (λ parent. ¬ IsSaid world class.this_class parent) parents name) → AllByRecursion IsQualified parents
  parents_qualified [] none = tt
  parents_qualified (parent ∷ parents) none = (
    said_qualified parent (λ unsaid. none parent (inl (unsaid, refl))),
    parents_qualified parents (λ name first. none name (inr ((λ unsaid. none parent (inl (unsaid, refl))), first))),
  )

  module _ (none : (found : ClassCause) → ¬ HasClassCause world class found) where
    own_denied : ¬ ¬ IsOwnSaid world class.this_class
    own_denied unsaid = none (class_cause.Name class.this_class) (inl (unsaid, refl))

    -- the class's name is one with segments, so it is of characters below 128
    pub own_qualified : IsQualified class.this_class
    own_qualified = qualified_stands class.this_class (λ no. own_denied (λ own. no (sayable_qualified class.this_class own.sayable)))

    all_parents : AllByRecursion IsQualified (parent_names class)
    all_parents = parents_qualified (parent_names class) (λ name first. own_denied (λ own. none (class_cause.Name name) (inr (own, first))))

    interfaces_of : (found : Option Name) (interfaces : List Name) → AllByRecursion IsQualified (option_to_list found ++ interfaces) → IfSome found IsQualified × AllByRecursion IsQualified interfaces
    interfaces_of None interfaces all = (tt, all)
    interfaces_of (Some name) interfaces all = (all.0, all.1)

    -- the superclass that the text names
    superclass_formed : (interface : Bool) (found : Option Name) → IfSome found IsQualified → IfSome (shown_superclass interface found) (IsSuperclass interface)
    superclass_formed interface None named = tt
    superclass_formed true (Some name) named = tt
    superclass_formed false (Some name) named = go (bytes_eq name object_name) refl
      where
        go : (object : Bool) → bytes_eq name object_name ≡ object → IfSome (if object then None else Some name) (IsSuperclass false)
        go true is = tt
        go false is = (refl, named, λ same. (let e : bytes_eq object_name object_name ≡ false = ap (λ (n : Name). bytes_eq n object_name) (sym same) ∙ is in cc))

  -- ---- fields

  int_fits : (kind : JType) (number : _) → FitsConstant (constant.Int number) → IsWellFormedExp (int_value kind number)
  int_fits Boolean number fits = tt
  int_fits Byte number fits = fits
  int_fits Char number fits = fits
  int_fits Short number fits = fits
  int_fits Int number fits = fits
  int_fits Long number fits = fits
  int_fits Float number fits = fits
  int_fits Double number fits = fits
  int_fits (Class name) number fits = fits
  int_fits (Array element) number fits = fits

  constant_fits : (kind : JType) (value : Constant) → FitsConstant value → IfSome (value_of kind value) IsWellFormedExp
  constant_fits kind (constant.Int number) fits = int_fits kind number fits
  constant_fits kind (constant.Long number) fits = fits
  constant_fits kind (constant.Text units) fits = fits
  constant_fits kind (constant.Float bits) fits = tt
  constant_fits kind (constant.Double bits) fits = tt

  value_fits : (kind : JType) (value : Option Constant) → IfSome value FitsConstant → IfSome (option_and_then (value_of kind) value) IsWellFormedExp
  value_fits kind None fits = tt
  value_fits kind (Some value) fits = constant_fits kind value fits

  shown_fits : (field : FieldOf) → IfSome field.constant FitsConstant → IfSome (shown_value field) IsWellFormedExp
  shown_fits field fits = go (bit_and field.flags 0x0008 == 0)
    where
      go : (none : Bool) → IfSome (if none then None else option_and_then (value_of field.descriptor) field.constant) IsWellFormedExp
      go true = tt
      go false = value_fits field.descriptor field.constant fits

  field_formed : (interface : Bool) (at : ℕ) (field : FieldOf) → slice_get class.fields at ≡ Some field → ((found : FieldCause) → ¬ HasFieldCause world class at found) → IfSome field.constant FitsConstant → IsWellFormedField interface (field_text interface field)
  field_formed interface at field there none fits =
      let unsaid : (name : Name) → ¬ IsUnsaidInField world class field name = λ name bad. none (field_cause.Name name) (subst (λ (o : Option FieldOf). IsSomeAnd o (λ f. IsUnsaidInField world class f name)) (sym there) bad) in
      let identifier : IsIdentifier field.name = identifier_stands field.name (λ no. unsaid field.name (inl (no, refl))) in
      record {
        name = identifier;
        kind = named_by_class field.descriptor (λ name of. said_qualified name (λ no. unsaid name (inr (identifier, of, no))));
        flags = field_flags_kept interface (bare_field field);
        value = shown_fits field fits;
      }

  fields_formed : (interface : Bool) (at : ℕ) (some : List FieldOf) (texts : List FieldText) → drop at class.fields ≡ some → AllByRecursion (λ (field : FieldOf). IfSome field.constant FitsConstant) some → ShowsFields world class interface at some texts
      → AllByRecursion (IsWellFormedField interface) texts
  fields_formed interface at [] [] is fit fields.no_more = tt
  fields_formed interface at [] (text ∷ texts) is fit shows = elim shows [ ]
  fields_formed interface at (field ∷ some) texts is fit (fields.absent found has rest) = fields_formed interface (at + 1) some texts (head_at class.fields at field some is).1 fit.1 rest
  fields_formed interface at (field ∷ some) (text ∷ texts) is fit (fields.shown none rest) = (
    field_formed interface at field (head_at class.fields at field some is).0 none fit.0,
    fields_formed interface (at + 1) some texts (head_at class.fields at field some is).1 fit.1 rest,
  )

  -- ---- methods without code

  result_none : (found : Option JType) → ¬ (found ≢ None) → found ≡ None
  result_none None denied = refl
  result_none (Some kind) denied = absurd (denied (λ e. none-some kind (sym e)))

  module _ (at : ℕ) (method : MethodOf) (there : slice_get class.methods at ≡ Some method) (none : method.code ≡ None) (free : IsFreeOfCauses world class at) where
    said : (name : Name) → ¬ IsUnsaid world class method name
    said name bad = free.said name (subst (λ (o : Option MethodOf). IsSomeAnd o (λ m. IsUnsaid world class m name)) (sym there) bad)

    lawful : ¬ BreaksSignature class at method
    lawful breaks = free.none cause.Signature (subst (λ (o : Option MethodOf). IsSomeAnd o (BreaksSignature class at)) (sym there) breaks)

    head_qualified : (name : Name) → IsInHead method name → IsQualified name
    head_qualified name in_head = said_qualified name (λ no. said name (inr (record { lower = name; is_one = inr in_head; above = record { path = []; is_path = refl } }, no)))

    name_formed : (interface : Bool) → HasMethodName (method_text interface method None)
    name_formed interface = go (is_constructor method.name) (is_initialiser method.name) refl refl
      where
        go : (constructor initialiser : Bool) → is_constructor method.name ≡ constructor → is_initialiser method.name ≡ initialiser
            → cond_type constructor (result_of method.descriptor ≡ None) (cond_type initialiser (IsInitialiser (method_text interface method None)) (IsIdentifier method.name))
        go true initialiser is other = result_none (result_of method.descriptor) (λ answers. lawful (inr (inr (inr (inr (is, inl answers))))))
        go false true is other = absurd (lawful (inr (inr (inr (inl (other, inr (inr (inr none))))))))
        go false false is other = identifier_stands method.name (λ no. said method.name (inl (
          (λ named. elim named [
            | inl constructor ↦ (let e : true ≡ false = sym constructor ∙ is in cc)
            | inr (inl initialiser) ↦ (let e : true ≡ false = sym initialiser ∙ other in cc)
            | inr (inr identifier) ↦ no identifier
          ]),
          refl,
        )))

    parameters_formed : (kinds : List JType) → ((name : Name) → Any (λ kind. class_of kind ≡ Some name) kinds → IsQualified name) → AllByRecursion IsNamed kinds
    parameters_formed [] each = tt
    parameters_formed (kind ∷ kinds) each = (
      named_by_class kind (λ name of. each name (0, kind, omega arith, refl, of)),
      parameters_formed kinds (λ name some. each name (suc some.0, some.1, (let within = some.2 in omega arith), some.3, some.4)),
    )

    result_formed : (found : Option JType) → ((name : Name) → option_and_then class_of found ≡ Some name → IsQualified name) → IfSome found IsNamed
    result_formed None each = tt
    result_formed (Some kind) each = named_by_class kind each

    descriptor_formed : (descriptor : Descriptor) → IsOfMethod descriptor → ((name : Name) → NamesClass descriptor name → IsQualified name) → IsMethodDescriptor descriptor
    descriptor_formed (Field kind) of each = absurd of
    descriptor_formed (Method parameters result) of each = (parameters_formed parameters (λ name some. each name (inl some)), result_formed result (λ name is. each name (inr is)))

    thrown_formed : (thrown : List Name) → ((name : Name) → Contains thrown name → IsQualified name) → AllByRecursion IsQualified thrown
    thrown_formed [] each = tt
    thrown_formed (name ∷ thrown) each = (each name (0, omega arith, refl), thrown_formed thrown (λ other has. each other (suc has.0, (let within = has.1 in omega arith), has.2)))

    bare_formed : (interface helper : Bool) → IsOfMethod method.descriptor → IsWellFormedMethod interface helper class.this_class (method_text interface method None)
    bare_formed interface helper of = record {
      name = name_formed interface;
      descriptor = descriptor_formed method.descriptor of (λ name names. head_qualified name (inl names));
      thrown = thrown_formed method.thrown (λ name has. head_qualified name (inr has));
      flags = method_flags_kept interface (bare_method method None);
      body = tt;
    }

  -- ---- methods

  or_first : (first second : Bool) → IsTrue first → IsTrue (first || second)
  or_first true second holds = refl
  or_first false second holds = absurd cc

  or_second : (first second : Bool) → IsTrue second → IsTrue (first || second)
  or_second true second holds = refl
  or_second false second holds = holds

  method_formed : (interface helper : Bool) (at : ℕ) (method : MethodOf) (body : Option Body) (text : MethodText) (texts : List MethodText) → slice_get class.methods at ≡ Some method → IsOfMethod method.descriptor
      → FitBodies interface class.this_class (method ∷ []) (body ∷ []) → (IsTrue (methods_have_rethrow (text ∷ texts)) → IsTrue helper) → IsTextOfMethod world class interface at method body (Some text)
      → IsWellFormedMethod interface helper class.this_class text
  method_formed interface helper at method None text texts there of fit helps (inl coded) = absurd (let e : Some text ≡ None = coded.1 in cc)
  method_formed interface helper at method (Some body) text texts there of fit helps (inl coded) =
      let is : text ≡ method_text interface method (Some body) = same_Some text (method_text interface method (Some body)) coded.1 in
      subst (IsWellFormedMethod interface helper class.this_class) (sym is)
      (fit.0 helper (λ rethrows. (subst (λ (t : MethodText). IsTrue (methods_have_rethrow (t ∷ texts)) → IsTrue helper) is helps) (or_first (have_rethrow body.statements) (methods_have_rethrow texts) rethrows)))
  method_formed interface helper at method body text texts there of fit helps (inr bare) =
      let told : IsFreeOfCauses world class at × (text ≡ method_text interface method None) = second_of bare in
      subst (IsWellFormedMethod interface helper class.this_class) (sym told.1) (bare_formed at method there (first_of bare) told.0 interface helper of)

  first_fits : (interface : Bool) (method : MethodOf) (some : List MethodOf) (body : Option Body) (bodies : List (Option Body)) → FitBodies interface class.this_class (method ∷ some) (body ∷ bodies)
      → FitBodies interface class.this_class (method ∷ []) (body ∷ []) × FitBodies interface class.this_class some bodies
  first_fits interface method some None bodies fit = (tt, fit)
  first_fits interface method some (Some body) bodies fit = ((fit.0, tt), fit.1)

  methods_formed : (interface helper : Bool) (at : ℕ) (some : List MethodOf) (bodies : List (Option Body)) (texts : List MethodText) → drop at class.methods ≡ some → AllByRecursion (λ (method : MethodOf). IsOfMethod method.descriptor) some
      → FitBodies interface class.this_class some bodies → (IsTrue (methods_have_rethrow texts) → IsTrue helper) → ShowsMethods world class interface at some bodies texts → AllByRecursion (IsWellFormedMethod interface helper class.this_class) texts
  methods_formed interface helper at [] [] [] is of fit helps methods.no_more = tt
  methods_formed interface helper at [] [] (text ∷ texts) is of fit helps shows = elim shows [ ]
  methods_formed interface helper at [] (body ∷ bodies) texts is of fit helps shows = elim shows [ ]
  methods_formed interface helper at (method ∷ some) [] texts is of fit helps shows = elim shows [ ]
  methods_formed interface helper at (method ∷ some) (body ∷ bodies) texts is of fit helps (methods.absent told rest) =
      methods_formed interface helper (at + 1) some bodies texts (head_at class.methods at method some is).1 of.1 (first_fits interface method some body bodies fit).1 helps rest
  methods_formed interface helper at (method ∷ some) (body ∷ bodies) (text ∷ texts) is of fit helps (methods.shown told rest) = (
    method_formed interface helper at method body text texts (head_at class.methods at method some is).0 of.0 (first_fits interface method some body bodies fit).0 helps told,
    methods_formed interface helper (at + 1) some bodies texts (head_at class.methods at method some is).1 of.1 (first_fits interface method some body bodies fit).1 (λ rethrows. helps (rest_rethrows text texts rethrows)) rest,
  )
    where
      rest_rethrows : (text : MethodText) (texts : List MethodText) → IsTrue (methods_have_rethrow texts) → IsTrue (methods_have_rethrow (text ∷ texts))
      rest_rethrows text texts rethrows = or_second _ (methods_have_rethrow texts) rethrows

-- ---- the helper

numeral_digits : (digits : List ℕ) → AllBelowBase 10 digits → AllByRecursion IsDigit (map (λ (d : ℕ). 48 + d) digits)
numeral_digits [] below = tt
numeral_digits (digit ∷ digits) below = (let under = below.0 in (omega arith, omega arith), numeral_digits digits below.1)

numeral_by_digits : (digits : List ℕ) → AllBelowBase 10 digits → 48 < get_or (map (λ (d : ℕ). 48 + d) digits) 0 0 → IsDecimalNumeral (map (λ (d : ℕ). 48 + d) digits)
numeral_by_digits [] below first = absurd (omega (arith, first))
numeral_by_digits (digit ∷ []) below first = let under = below.0 in (omega arith, omega arith)
numeral_by_digits (digit ∷ next ∷ digits) below first = ((λ same. absurd (omega (arith, first, same))), numeral_digits (digit ∷ next ∷ digits) below)

decimal_numeral : (n : ℕ) → n < 2 ^ 64 → IsDecimalNumeral (decimal n)
decimal_numeral zero fits = subst IsDecimalNumeral (sym (decimal_digit 0 (omega arith))) (omega arith, omega arith)
decimal_numeral (suc n) fits =
    let is : decimal (suc n) ≡ map (λ (d : ℕ). 48 + d) (digits_of 10 (suc n)) = decimal-digits_of (suc n) (omega arith) fits in
    subst IsDecimalNumeral (sym is) (numeral_by_digits (digits_of 10 (suc n)) (all_below_base_digits_of 10 (suc n) (omega arith)) (subst (λ (ds : List ℕ). 48 < get_or ds 0 0) is (first_decimal (suc n) (omega arith) fits)))

free_fits : (names : List Name) (number : ℕ) → length names < 2 ^ 32 → IsFreeNumber names number → number < 2 ^ 64
free_fits names number few free = elim (cases_lt number (2 ^ 64)) [
  | inl under ↦ under
  | inr from ↦ absurd (let room = taken_room names (2 ^ 64) (omega arith) (λ lower below. free.least lower (omega arith)) in omega (arith, few, room))
]

helper_formed : (names : List Name) (rethrows : Bool) (helper : Option Name) → length names < 2 ^ 32 → IsHelper names rethrows helper → IfSome helper IsHelperName × (IsTrue rethrows → IsTrue (is_some helper))
helper_formed names false helper few is = (rw is tt, λ yes. absurd cc)
helper_formed names true helper few (number, free, is) = (rw is (decimal number, decimal_numeral number (free_fits names number few free), refl), λ yes. rw is refl)

-- ---- the unit

-- the unit of a class that no cause refuses is well formed where the bodies of its methods fit
pub unit_formed : (world : WorldOf) (class : ClassOf) (bodies : List (Option Body)) (unit : CompilationUnit) → IsClassText world class bodies unit → ((found : ClassCause) → ¬ HasClassCause world class found) → IsFromFile class
    → FitBodies (is_interface class.flags) class.this_class class.methods bodies → IsWellFormed unit
unit_formed world class bodies unit text none file fit =
    let split = split_qualified unit.«package» unit.name class.this_class text.named (own_qualified world class none) in
    let interface : is_interface unit.flags ≡ is_interface class.flags = ap is_interface text.flags ∙ class_kind_kept class.flags in
    let parents = interfaces_of world class none class.super_class class.interfaces (all_parents world class none) in
    let few : length (method_names class.methods) < 2 ^ 32 = (let f = file.few in omega (arith, length-map class.methods (λ (method : MethodOf). method.name))) in
    let helper = helper_formed (method_names class.methods) (methods_have_rethrow unit.methods) unit.helper few text.helper in
    record {
      in_package = split.0;
      name = split.1;
      flags = text.flags ∙ class_flags_kept class.flags ∙ ap held_class (sym text.flags);
      superclass = rw (interface, text.superclass) (superclass_formed world class none (is_interface class.flags) class.super_class parents.0);
      interfaces = rw text.interfaces parents.1;
      fields = rw interface (fields_formed world class (is_interface class.flags) 0 class.fields unit.fields refl file.constants text.fields);
      helper = helper.0;
      methods = rw (interface, split_name unit.«package» unit.name class.this_class unit refl refl text.named)
          (methods_formed world class (is_interface class.flags) (is_some unit.helper) 0 class.methods bodies unit.methods refl file.descriptors fit helper.1 text.methods);
    }
