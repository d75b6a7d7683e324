-- First values that copy `this` or a parameter: they may stand, and are evaluated at once.
use Rattle.std.proofs.Common.{arith, leb-true, nat_le, T, ℕ, zero, suc, ◌+◌, Bool, true, false, not, ℤ, pos, negsuc, ◌≤ℤ◌, List, [], ◌∷◌, Option, Some, None, ◌≡◌, refl, sym, ap, ◌∙◌, subst, ◌&&◌, ◌||◌, ◌==◌}
use Rattle.std.specs.Prelude.{slice_get, is_some, if◌then◌else◌}
use Rattle.std.proofs.lemmas.Bool.{eqb-true, eq-eqb, false≢true, and_parts}
use Rattle.dj_names.specs.declared.header.Header.{Header}
use Rattle.dj_names.specs.Types as types
use Rattle.dj_names.specs.Types.{JType, Boolean, Byte, Char, Short, Float, Double, Class, Array, StaticType, Of}
use Rattle.dj_syntax.specs.declared.variable.VarKind.TheVariants as kind
use Rattle.dj_syntax.specs.declared.variable.Var.{Var}
use Rattle.dj_syntax.specs.Trees.{Exp, This, Variable, Choice}
use Rattle.dj_syntax.specs.Trees as trees
use Rattle.dj_values.specs.Values as values
use Rattle.dj_values.specs.Values.{RefValue, Value, Ref}
use Rattle.dj_values.specs.Fits.{IsValueOf, AreValuesOf, IsThis}
use Rattle.dj_values.specs.Deciding.{is_reference}
use Rattle.dj_values.specs.Outcomes.{Gives, State, Outcome, Is}
use Rattle.dj_meaning.specs.Calls.{is_assignable}
use Rattle.dj_meaning.specs.Conversions.{converted}
use Rattle.dj_declaring.specs.Entries.{parameter, is_it, place_in, is_kept_as_int, is_long, may_copy}

-- ---- places of parameters

pub is_it_so : (one : Option ℕ) (number : ℕ) → is_it one number ≡ true → one ≡ Some number
is_it_so None number e = absurd (false≢true e)
is_it_so (Some one) number e = ap Some (eqb-true one number e)

pub it_is : (number : ℕ) → is_it (Some number) number ≡ true
it_is number = eq-eqb number number refl

-- the place that is found is one of a parameter that the variable holds
pub record IsPlace (list : List (Option ℕ)) (start number place : ℕ) : Type 0 where
  pub at : ℕ
  pub counted : place ≡ start + at
  pub holds : slice_get list at ≡ Some (Some number)

same_some : (first second : ℕ) → Some first ≡ Some second → first ≡ second
same_some first second e = cc

pub found_place : (list : List (Option ℕ)) (start number place : ℕ) → place_in list start number ≡ Some place → IsPlace list start number place
found_place [] start number place e = absurd (no e)
  where
    no : None ≡ Some place → ⊥
    no e = cc
found_place (first ∷ rest) start number place e = go (is_it first number) refl e (λ later. found_place rest (suc start) number place later)
  where
    later : IsPlace rest (suc start) number place → IsPlace (first ∷ rest) start number place
    later there = record { at = suc there.at; counted = there.counted ∙ (omega arith); holds = there.holds }

    go : (it : Bool) → is_it first number ≡ it → (if it then Some start else place_in rest (suc start) number) ≡ Some place
        → (place_in rest (suc start) number ≡ Some place → IsPlace rest (suc start) number place) → IsPlace (first ∷ rest) start number place
    go true t e on = record { at = 0; counted = sym (same_some start place e) ∙ (omega arith); holds = ap Some (is_it_so first number t) }
    go false t e on = later (on e)

-- and there is one, where a parameter is held
pub place_there : (list : List (Option ℕ)) (start number at : ℕ) → slice_get list at ≡ Some (Some number) → (place : ℕ) × (place_in list start number ≡ Some place)
place_there [] start number at e = absurd (no e)
  where
    no : None ≡ Some (Some number) → ⊥
    no e = cc
place_there (first ∷ rest) start number zero e = (start, ap (λ (it : Bool). if it then Some start else place_in rest (suc start) number) (ap (λ one. is_it one number) (same first e) ∙ it_is number))
  where
    same : (first : Option ℕ) → Some first ≡ Some (Some number) → first ≡ Some number
    same first e = cc
place_there (first ∷ rest) start number (suc at) e = go (is_it first number) (place_there rest (suc start) number at e)
  where
    go : (it : Bool) → (place : ℕ) × (place_in rest (suc start) number ≡ Some place) → (place : ℕ) × ((if it then Some start else place_in rest (suc start) number) ≡ Some place)
    go true later = (start, refl)
    go false later = later

-- ---- arguments

pub argument_there : (headers : List Header) (parameters : List JType) (arguments : List Value) (place : ℕ) (type : JType) → AreValuesOf headers parameters arguments → slice_get parameters place ≡ Some type
    → (value : Value) × (slice_get arguments place ≡ Some value) × IsValueOf headers type value
argument_there headers [] [] place type are e = absurd (no e)
  where
    no : None ≡ Some type → ⊥
    no e = cc
argument_there headers [] (value ∷ rest) place type are e = absurd are
argument_there headers (first ∷ others) [] place type are e = absurd are
argument_there headers (first ∷ others) (value ∷ rest) zero type are e = (value, refl, subst (λ type. IsValueOf headers type value) (same first type e) are.0)
  where
    same : (first second : JType) → Some first ≡ Some second → first ≡ second
    same first second e = cc
argument_there headers (first ∷ others) (value ∷ rest) (suc place) type are e = argument_there headers others rest place type are.1 e

pub argument_not : (headers : List Header) (parameters : List JType) (arguments : List Value) (place : ℕ) → AreValuesOf headers parameters arguments → slice_get parameters place ≡ None → slice_get arguments place ≡ None
argument_not headers [] [] place are e = refl
argument_not headers [] (value ∷ rest) place are e = absurd are
argument_not headers (first ∷ others) [] place are e = absurd are
argument_not headers (first ∷ others) (value ∷ rest) zero are e = absurd (no e)
  where
    no : Some first ≡ None → ⊥
    no e = cc
argument_not headers (first ∷ others) (value ∷ rest) (suc place) are e = argument_not headers others rest place are.1 e

-- ---- what may be copied

-- the type of a copy
abbrev pub as_copied : JType → JType
as_copied Boolean = types.Int
as_copied Byte = Byte
as_copied Char = Char
as_copied Short = Short
as_copied types.Int = types.Int
as_copied types.Long = types.Long
as_copied Float = Float
as_copied Double = Double
as_copied (Class name) = Class name
as_copied (Array element) = Array element

goes_to_int : (headers : List Header) (from : JType) → is_kept_as_int from ≡ true → is_assignable headers (Of (as_copied from)) types.Int ≡ true
goes_to_int headers Boolean e = refl
goes_to_int headers Byte e = refl
goes_to_int headers Char e = refl
goes_to_int headers Short e = refl
goes_to_int headers types.Int e = refl
goes_to_int headers types.Long e = absurd (false≢true e)
goes_to_int headers Float e = absurd (false≢true e)
goes_to_int headers Double e = absurd (false≢true e)
goes_to_int headers (Class name) e = absurd (false≢true e)
goes_to_int headers (Array element) e = absurd (false≢true e)

goes_to_long : (headers : List Header) (from : JType) → is_long from ≡ true → is_assignable headers (Of (as_copied from)) types.Long ≡ true
goes_to_long headers Boolean e = absurd (false≢true e)
goes_to_long headers Byte e = absurd (false≢true e)
goes_to_long headers Char e = absurd (false≢true e)
goes_to_long headers Short e = absurd (false≢true e)
goes_to_long headers types.Int e = absurd (false≢true e)
goes_to_long headers types.Long e = refl
goes_to_long headers Float e = absurd (false≢true e)
goes_to_long headers Double e = absurd (false≢true e)
goes_to_long headers (Class name) e = absurd (false≢true e)
goes_to_long headers (Array element) e = absurd (false≢true e)

goes_to_reference : (headers : List Header) (from to : JType) → (is_reference from && is_assignable headers (Of from) to) ≡ true → is_assignable headers (Of (as_copied from)) to ≡ true
goes_to_reference headers Boolean to e = absurd (false≢true e)
goes_to_reference headers Byte to e = absurd (false≢true e)
goes_to_reference headers Char to e = absurd (false≢true e)
goes_to_reference headers Short to e = absurd (false≢true e)
goes_to_reference headers types.Int to e = absurd (false≢true e)
goes_to_reference headers types.Long to e = absurd (false≢true e)
goes_to_reference headers Float to e = absurd (false≢true e)
goes_to_reference headers Double to e = absurd (false≢true e)
goes_to_reference headers (Class name) to e = e
goes_to_reference headers (Array element) to e = e

pub copy_goes : (headers : List Header) (from to : JType) → may_copy headers from to ≡ true → is_assignable headers (Of (as_copied from)) to ≡ true
copy_goes headers from Boolean e = absurd (false≢true e)
copy_goes headers from Byte e = absurd (false≢true e)
copy_goes headers from Char e = absurd (false≢true e)
copy_goes headers from Short e = absurd (false≢true e)
copy_goes headers from types.Int e = goes_to_int headers from e
copy_goes headers from types.Long e = goes_to_long headers from e
copy_goes headers from Float e = absurd (false≢true e)
copy_goes headers from Double e = absurd (false≢true e)
copy_goes headers from (Class name) e = goes_to_reference headers from (Class name) e
copy_goes headers from (Array element) e = goes_to_reference headers from (Array element) e

-- ---- what it holds

-- an int stays as it is where an int is wanted
int_stays : (headers : List Header) (from : JType) (value : Value) → is_kept_as_int from ≡ true → IsValueOf headers from value → converted types.Int value ≡ Gives value
int_stays headers from (values.Int number) e fits = refl
int_stays headers from (values.Long number) e fits = absurd (false≢true (sym (ap is_kept_as_int fits.0) ∙ e))
int_stays headers Boolean values.Null e fits = absurd fits
int_stays headers Byte values.Null e fits = absurd fits
int_stays headers Char values.Null e fits = absurd fits
int_stays headers Short values.Null e fits = absurd fits
int_stays headers types.Int values.Null e fits = absurd fits
int_stays headers types.Long values.Null e fits = absurd fits
int_stays headers Float values.Null e fits = absurd fits
int_stays headers Double values.Null e fits = absurd fits
int_stays headers (Class name) values.Null e fits = absurd (false≢true e)
int_stays headers (Array element) values.Null e fits = absurd (false≢true e)
int_stays headers Boolean (Ref reference) e fits = absurd fits.wanted
int_stays headers Byte (Ref reference) e fits = absurd fits.wanted
int_stays headers Char (Ref reference) e fits = absurd fits.wanted
int_stays headers Short (Ref reference) e fits = absurd fits.wanted
int_stays headers types.Int (Ref reference) e fits = absurd fits.wanted
int_stays headers types.Long (Ref reference) e fits = absurd fits.wanted
int_stays headers Float (Ref reference) e fits = absurd fits.wanted
int_stays headers Double (Ref reference) e fits = absurd fits.wanted
int_stays headers (Class name) (Ref reference) e fits = absurd (false≢true e)
int_stays headers (Array element) (Ref reference) e fits = absurd (false≢true e)

long_stays : (headers : List Header) (from : JType) (value : Value) → is_long from ≡ true → IsValueOf headers from value → converted types.Long value ≡ Gives value
long_stays headers Boolean value e fits = absurd (false≢true e)
long_stays headers Byte value e fits = absurd (false≢true e)
long_stays headers Char value e fits = absurd (false≢true e)
long_stays headers Short value e fits = absurd (false≢true e)
long_stays headers types.Int value e fits = absurd (false≢true e)
long_stays headers types.Long (values.Int number) e fits = absurd fits
long_stays headers types.Long (values.Long number) e fits = refl
long_stays headers types.Long values.Null e fits = absurd fits
long_stays headers types.Long (Ref reference) e fits = absurd fits.wanted
long_stays headers Float value e fits = absurd (false≢true e)
long_stays headers Double value e fits = absurd (false≢true e)
long_stays headers (Class name) value e fits = absurd (false≢true e)
long_stays headers (Array element) value e fits = absurd (false≢true e)

-- a value of a reference type is null or a reference
pub is_of_reference : (headers : List Header) (from : JType) (value : Value) → is_reference from ≡ true → IsValueOf headers from value → (name : List ℕ) → converted (Class name) value ≡ Gives value
is_of_reference headers Boolean value e fits name = absurd (false≢true e)
is_of_reference headers Byte value e fits name = absurd (false≢true e)
is_of_reference headers Char value e fits name = absurd (false≢true e)
is_of_reference headers Short value e fits name = absurd (false≢true e)
is_of_reference headers types.Int value e fits name = absurd (false≢true e)
is_of_reference headers types.Long value e fits name = absurd (false≢true e)
is_of_reference headers Float value e fits name = absurd (false≢true e)
is_of_reference headers Double value e fits name = absurd (false≢true e)
is_of_reference headers (Class own) (values.Int number) e fits name = absurd fits
is_of_reference headers (Class own) (values.Long number) e fits name = absurd (no fits.0)
  where
    no : Class own ≡ types.Long → ⊥
    no e = cc
is_of_reference headers (Class own) values.Null e fits name = refl
is_of_reference headers (Class own) (Ref reference) e fits name = refl
is_of_reference headers (Array element) (values.Int number) e fits name = absurd fits
is_of_reference headers (Array element) (values.Long number) e fits name = absurd (no fits.0)
  where
    no : Array element ≡ types.Long → ⊥
    no e = cc
is_of_reference headers (Array element) values.Null e fits name = refl
is_of_reference headers (Array element) (Ref reference) e fits name = refl

array_stays : (element : JType) (value : Value) → converted (Class []) value ≡ Gives value → converted (Array element) value ≡ Gives value
array_stays element (values.Int number) e = absurd (no e)
  where
    no : converted (Class []) (values.Int number) ≡ Gives (values.Int number) → ⊥
    no e = cc
array_stays element (values.Long number) e = absurd (no e)
  where
    no : converted (Class []) (values.Long number) ≡ Gives (values.Long number) → ⊥
    no e = cc
array_stays element values.Null e = refl
array_stays element (Ref reference) e = refl

-- what is copied is the same behind
pub copy_stays : (headers world : List Header) (from to : JType) (value : Value) → may_copy world from to ≡ true → IsValueOf headers from value → converted to value ≡ Gives value
copy_stays headers world from Boolean value e fits = absurd (false≢true e)
copy_stays headers world from Byte value e fits = absurd (false≢true e)
copy_stays headers world from Char value e fits = absurd (false≢true e)
copy_stays headers world from Short value e fits = absurd (false≢true e)
copy_stays headers world from types.Int value e fits = int_stays headers from value e fits
copy_stays headers world from types.Long value e fits = long_stays headers from value e fits
copy_stays headers world from Float value e fits = absurd (false≢true e)
copy_stays headers world from Double value e fits = absurd (false≢true e)
copy_stays headers world from (Class name) value e fits = is_of_reference headers from value (and_parts (is_reference from) (is_assignable world (Of from) (Class name)) e).0 fits name
copy_stays headers world from (Array element) value e fits =
    array_stays element value (is_of_reference headers from value (and_parts (is_reference from) (is_assignable world (Of from) (Array element)) e).0 fits [])

-- `this` is a reference
pub this_stays : (headers world : List Header) (class : List ℕ) (to : JType) (value : Value) → may_copy world (Class class) to ≡ true → IsThis headers class value → converted to value ≡ Gives value
this_stays headers world class to (values.Int number) e this = absurd this
this_stays headers world class to (values.Long number) e this = absurd this
this_stays headers world class to values.Null e this = absurd this
this_stays headers world class to (Ref reference) e this = copy_stays headers world (Class class) to (Ref reference) e this

true_so : (b : Bool) → T b → b ≡ true
true_so true t = refl
true_so false t = absurd t

too_many : (more : ℕ) → nat_le (suc (suc more)) 1 ≡ true → ⊥
too_many more e = omega (arith, leb-true (suc (suc more)) 1 e)

-- a boolean is 0 or 1
pub truth_cases : (headers : List Header) (Has : Value → Type 0) → Has (values.Int (pos 0)) → Has (values.Int (pos 1)) → (value : Value) → IsValueOf headers Boolean value → Has value
truth_cases headers Has is_false is_true (values.Int number) fits = go number fits.0 fits.1
  where
    go : (number : ℤ) → pos 0 ≤ℤ number → number ≤ℤ pos 1 → Has (values.Int number)
    go (pos zero) least most = is_false
    go (pos (suc zero)) least most = is_true
    go (pos (suc (suc more))) least most = absurd (too_many more (true_so (nat_le (suc (suc more)) 1) most.le))
    go (negsuc number) least most = absurd least.le
truth_cases headers Has is_false is_true (values.Long number) fits = absurd (no fits.0)
  where
    no : Boolean ≡ types.Long → ⊥
    no e = cc
truth_cases headers Has is_false is_true values.Null fits = absurd fits
truth_cases headers Has is_false is_true (Ref reference) fits = absurd fits.wanted
