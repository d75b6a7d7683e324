-- What values of types are: what goes on to other types, what arrays hold, what is thrown.
use Rattle.std.proofs.Common.{◌≡◌, ℤ, Bool, true, false, IsSome, IsSomeAnd, List, [], Contains, refl, sym, subst, inl, inr, ◌⊎◌, arith}
use Rattle.std.specs.List.{list_all}
use Rattle.std.proofs.lemmas.Bool.{false≢true}
use Rattle.dj_names.specs.declared.header.Header.{Header}
use Rattle.dj_names.specs.Headers.{Name, IsSubclass, Implements}
use Rattle.dj_names.specs.Types as types
use Rattle.dj_names.specs.Types.{JType, Boolean, Byte, Char, Short, Float, Double, Class, Array, StaticType, Of}
use Rattle.dj_names.specs.Assignable.{wider_types, IsReference, object_name, IsSubtype, own_type, wider_number, parent, object, elements, array}
use Rattle.dj_values.specs.Values.{RefValue, Value, Int, Long, Null, Ref}
use Rattle.dj_values.specs.Fits.{int_range, IsLengthOf, IsReferenceOf, IsValueOf, IsObject, IsThrowable, throwable_name}
use Rattle.dj_widened.specs.Widens.{HasRoots}
use Rattle.dj_widened.proofs.Paths.{above_again, subclass_above, in_contained, all_at}
use Rattle.dj_held.specs.Values.{GoesTo, itself, further, IsObjectOf, IsHeld}

-- ---- wider number types

abbrev is_plain : JType → Bool
is_plain Boolean = true
is_plain Byte = true
is_plain Char = true
is_plain Short = true
is_plain types.Int = true
is_plain types.Long = true
is_plain Float = true
is_plain Double = true
is_plain (Class name) = false
is_plain (Array element) = false

wider_plain : (type : JType) → list_all is_plain (wider_types type) ≡ true
wider_plain Boolean = refl
wider_plain Byte = refl
wider_plain Char = refl
wider_plain Short = refl
wider_plain types.Int = refl
wider_plain types.Long = refl
wider_plain Float = refl
wider_plain Double = refl
wider_plain (Class name) = refl
wider_plain (Array element) = refl

-- a wider number type is none of references
wider_not : (from to : JType) → Contains (wider_types from) to → is_plain to ≡ true
wider_not from to within = all_at is_plain (wider_types from) to (wider_plain from) (in_contained (wider_types from) to within)

-- and a reference has none
none_wider : {to : JType} (from : JType) → IsReference from → Contains (wider_types from) to → ⊥
none_wider (Class name) is (k, within, same) = omega arith
none_wider (Array element) is (k, within, same) = omega arith
none_wider Boolean is within = is
none_wider Byte is within = is
none_wider Char is within = is
none_wider Short is within = is
none_wider types.Int is within = is
none_wider types.Long is within = is
none_wider Float is within = is
none_wider Double is within = is

module _ (headers : List Header) where
  -- ---- steps

  pub goes_on : {from next to : JType} → GoesTo headers from next → GoesTo headers next to → GoesTo headers from to
  goes_on first itself = first
  goes_on first (further rest step) = further (goes_on first rest) step

  pub reference_step : {from to : JType} → IsSubtype headers from to → IsReference from → IsReference to
  reference_step own_type is = is
  reference_step (wider_number {from = from} within) is = absurd (none_wider from is within)
  reference_step (parent above) is = tt
  reference_step (object interface) is = tt
  reference_step (elements reference goes) is = tt
  reference_step (array above) is = tt

  pub stays_reference : {from to : JType} → GoesTo headers from to → IsReference from → IsReference to
  stays_reference itself is = is
  stays_reference (further rest step) is = reference_step step (stays_reference rest is)

  -- an object of a type is one of each that the type goes to
  pub object_goes : {from to : JType} {reference : RefValue} → IsSubtype headers from to → IsObjectOf headers from reference → IsObjectOf headers to reference
  object_goes step held = record { wanted = reference_step step held.wanted; length = held.length; goes = further held.goes step }

  pub object_goes_on : {from to : JType} {reference : RefValue} → GoesTo headers from to → IsObjectOf headers from reference → IsObjectOf headers to reference
  object_goes_on steps held = record { wanted = stays_reference steps held.wanted; length = held.length; goes = goes_on held.goes steps }

  -- ---- arrays

  -- the elements are of one type, or go to the other
  abbrev pub Elements : JType → JType → Type 0
  Elements from to = (from ≡ to) ⊎ (IsReference from × GoesTo headers from to)

  -- an array type, whose elements go to these
  abbrev pub IsArrayTo : JType → JType → Type 0
  IsArrayTo type element = (own : JType) × (type ≡ Array own) × Elements own element

  array_step : {from element : JType} → IsSubtype headers from (Array element) → IsArrayTo from element
  array_step {element = element} own_type = (element, refl, inl refl)
  array_step {element = element} (wider_number {from = from} within) = absurd (false≢true (wider_not from (Array element) within))
  array_step (elements {from = from} reference goes) = (from, refl, inr (reference, further itself goes))

  elements_on : {from middle to : JType} → Elements from middle → Elements middle to → Elements from to
  elements_on {from = from} {to = to} (inl same) rest = subst (λ type. Elements type to) (sym same) rest
  elements_on {from = from} (inr (reference, steps)) (inl same) = inr (reference, subst (GoesTo headers from) same steps)
  elements_on (inr (reference, steps)) (inr (middle, rest)) = inr (reference, goes_on steps rest)

  -- what goes to an array type is an array, whose elements go to the other's
  pub array_goes : {from to : JType} (element : JType) → GoesTo headers from to → to ≡ Array element → IsArrayTo from element
  array_goes {from = from} element itself is = (element, is, inl refl)
  array_goes element (further {next = next} rest step) is =
      let last = array_step (subst (IsSubtype headers next) is step) in
      let found = array_goes last.0 rest last.1 in
      (found.0, found.1, elements_on found.2 last.2)

  -- ---- exceptions

  module _ (roots : HasRoots headers) where
    -- a class that goes to Throwable
    abbrev IsBelowThrowable : JType → Type 0
    IsBelowThrowable type = (class : Name) × (type ≡ Class class) × Implements headers class throwable_name

    class_step : {from : JType} (class : Name) → IsSubtype headers from (Class class) → Implements headers class throwable_name → IsBelowThrowable from
    class_step class own_type above = (class, refl, above)
    class_step class (wider_number {from = from} within) above = absurd (false≢true (wider_not from (Class class) within))
    class_step class (parent {from = from} higher) above = (from, refl, above_again higher above)
    class_step class (object interface) above = absurd (roots.arrays object_name (0, omega arith, refl) above)
    class_step class (array within) above = absurd (roots.arrays class within above)

    throwable_goes : {from to : JType} (class : Name) → GoesTo headers from to → to ≡ Class class → Implements headers class throwable_name → IsBelowThrowable from
    throwable_goes class itself is above = (class, is, above)
    throwable_goes class (further {next = next} rest step) is above =
        let last = class_step class (subst (IsSubtype headers next) is step) above in
        throwable_goes last.0 rest last.1 last.2

    -- a reference of type Throwable is an exception
    pub held_throwable : (reference : RefValue) → IsObjectOf headers (Class throwable_name) reference → IsThrowable headers reference
    held_throwable reference held =
        let found = throwable_goes throwable_name held.goes refl (record { path = []; is_path = refl }) in
        record {
          class = found.0;
          object = record { exact = found.1; length = subst (λ class. IsLengthOf class reference.length) found.1 held.length };
          below = roots.throwables found.0 found.2;
        }

  -- an exception is of each class that stands above its own
  pub throwable_held : (reference : RefValue) (class : Name) → (thrown : IsThrowable headers reference) → IsSubclass headers thrown.class class → IsObjectOf headers (Class class) reference
  throwable_held reference class thrown below =
      record {
        wanted = tt;
        length = subst (λ class. IsLengthOf class reference.length) (sym thrown.object.exact) thrown.object.length;
        goes = subst (λ from. GoesTo headers from (Class class)) (sym thrown.object.exact) (further itself (parent (subclass_above below)));
      }

  -- ---- what fits is held

  pub fits_object : (type : JType) (reference : RefValue) → IsReferenceOf headers type reference → IsObjectOf headers type reference
  fits_object type reference fits = record { wanted = fits.wanted; length = fits.length; goes = further itself fits.assignable }

  fits_int : (type : JType) (P : ℤ × ℤ → Type 0) → IsSomeAnd (int_range type) P → IsSome (int_range type)
  fits_int Boolean P h = refl
  fits_int Byte P h = refl
  fits_int Char P h = refl
  fits_int Short P h = refl
  fits_int types.Int P h = refl
  fits_int types.Long P h = absurd h
  fits_int Float P h = absurd h
  fits_int Double P h = absurd h
  fits_int (Class name) P h = absurd h
  fits_int (Array element) P h = absurd h

  pub fits_held : (type : JType) (value : Value) → IsValueOf headers type value → IsHeld headers type value
  fits_held type (Int number) fits = fits_int type _ fits
  fits_held type (Long number) fits = fits.0
  fits_held type Null fits = fits
  fits_held type (Ref reference) fits = fits_object type reference fits

  -- an object of exactly a class
  pub exact_object : (class : Name) (reference : RefValue) → IsObject class reference → IsObjectOf headers (Class class) reference
  exact_object class reference is = record {
    wanted = tt;
    length = subst (λ type. IsLengthOf type reference.length) (sym is.exact) is.length;
    goes = subst (λ from. GoesTo headers from (Class class)) (sym is.exact) itself;
  }

  -- a value of a type is one of each reference type that this goes to
  pub held_goes_on : {from to : JType} (value : Value) → IsReference from → GoesTo headers from to → IsHeld headers from value → IsHeld headers to value
  held_goes_on {from = from} (Int number) is steps held = absurd (no_int from is held)
    where
      no_int : (type : JType) → IsReference type → IsSome (int_range type) → ⊥
      no_int (Class name) is some = false≢true some
      no_int (Array element) is some = false≢true some
      no_int Boolean is some = is
      no_int Byte is some = is
      no_int Char is some = is
      no_int Short is some = is
      no_int types.Int is some = is
      no_int types.Long is some = is
      no_int Float is some = is
      no_int Double is some = is
  held_goes_on {to = to} (Long number) is steps held = absurd (subst IsReference held is)
  held_goes_on Null is steps held = stays_reference steps is
  held_goes_on (Ref reference) is steps held = object_goes_on steps held
