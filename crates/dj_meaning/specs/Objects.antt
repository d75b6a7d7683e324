-- What is asked of objects, arrays and classes, and when an operation traps (JLS 15.8.2, 15.9.4, 15.10, 15.11, 15.12.4, 15.20.2, 15.26.1).
use Rattle.std.specs.Prelude.{ℕ, ℤ, pos, ◌&&◌, false, int_lt, int_le, List, [], ◌∷◌, Option, Some, None, if◌then◌else◌, codes}
use Rattle.std.specs.Int.{w32, cast_signed}
use Rattle.std.specs.List.{list_any}
use Rattle.dj_names.specs.declared.header.Header.{Header}
use Rattle.dj_names.specs.declared.members.Constant.{Constant}
use Rattle.dj_names.specs.declared.members.Constant.TheVariants as constant
use Rattle.dj_names.specs.Types.{JType, Class}
use Rattle.dj_names.specs.Headers.{Name}
use Rattle.dj_values.specs.Values.{RefValue, Text, Value, Int, Long, Null, Ref, InvokeKind, Virtual, Interface, Static, Special, NewArray, GetField, PutField, GetStatic, PutStatic, ArrayLoad, ArrayStore, Invoke}
use Rattle.dj_values.specs.Fits.{element_of}
use Rattle.dj_values.specs.Deciding.{is_subtype}
use Rattle.dj_values.specs.Outcomes.{More, Stuck, Reply, Gives, Halts, then_on, there, ask, ask_value, trap}
use Rattle.dj_meaning.specs.Operators.{truth}
use Rattle.dj_meaning.specs.Conversions.{converted}
use Rattle.dj_meaning.specs.Fields.{KnownField}
use Rattle.dj_meaning.specs.Targets.{Target}

-- ---- references

-- with a reference that isn't null; null traps
abbrev pub with_object : {A : Type 0} → Value → (RefValue → Reply A) → Reply A
with_object (Int number) next = Halts Stuck
with_object (Long number) next = Halts Stuck
with_object Null next = trap (codes "java/lang/NullPointerException")
with_object (Ref reference) next = next reference

-- a string constant (3.10.5)
abbrev pub text : List ℕ → Value
text units = Ref (record { id = Text units; class = Class (codes "java/lang/String"); length = 0 })

-- a value is of a type: null is of none (15.20.2)
abbrev pub is_of : List Header → JType → Value → Reply Value
is_of headers type (Int number) = Halts Stuck
is_of headers type (Long number) = Halts Stuck
is_of headers type Null = Gives (truth false)
is_of headers type (Ref reference) = Gives (truth (is_subtype headers reference.class type))

-- ---- fields

-- the value of a constant variable (4.12.4, 15.28); what would be a float or double is not followed further
abbrev pub constant_value : JType → Constant → Reply Value
constant_value type (constant.Int number) = converted type (Int number)
constant_value type (constant.Long number) = converted type (Long number)
constant_value type (constant.Text units) = Gives (text units)
constant_value type (constant.Float bits) = Halts More
constant_value type (constant.Double bits) = Halts More

-- a static field that is read: a constant variable is its value, without an action (13.1)
abbrev pub static_read : JType → Name → KnownField → Reply Value
static_read class name field = by_constant field.constant
  where
    by_constant : Option Constant → Reply Value
    by_constant None = ask_value (GetStatic class name field.type)
    by_constant (Some kept) = constant_value field.type kept

-- a field of an object that is read through a type; a static one drops the object
abbrev pub field_read : JType → Name → KnownField → Value → Reply Value
field_read class name field object =
    if field.of_class then static_read class name field else with_object object (λ reference. ask_value (GetField reference class name field.type))

-- a value that goes into a field of an object; into a static one it goes without the object
abbrev pub field_written : JType → Name → KnownField → Value → Value → Reply (Option Value)
field_written class name field object value =
    if field.of_class then ask (PutStatic class name field.type value)
    else with_object object (λ reference. ask (PutField reference class name field.type value))

-- ---- arrays

-- the length of an array, as an int: as it is, where it is below 2 ^ 31 (10.7); a longer one fits nowhere
abbrev pub length_read : Value → Reply Value
length_read array = with_object array (λ reference. Gives (Int (cast_signed w32 reference.length)))

-- an int
abbrev pub with_int : {A : Type 0} → Value → (ℤ → Reply A) → Reply A
with_int (Int number) next = next number
with_int (Long number) next = Halts Stuck
with_int Null next = Halts Stuck
with_int (Ref reference) next = Halts Stuck

-- an array that isn't null, and an index within it: null traps first
abbrev pub with_place : {A : Type 0} → Value → Value → (RefValue → ℤ → Reply A) → Reply A
with_place array index next =
    with_int index (λ place. with_object array (λ reference.
    if int_le (pos 0) place && int_lt place (pos reference.length) then next reference place else trap (codes "java/lang/ArrayIndexOutOfBoundsException")))

-- an element that is read (15.13)
abbrev pub element_read : Value → Value → Reply Value
element_read array index = with_place array index (λ reference place. ask_value (ArrayLoad reference place))

-- a value that goes into an element: a reference that the array doesn't hold traps (10.5)
abbrev pub element_held : List Header → RefValue → ℤ → Value → Reply (Option Value)
element_held headers array place (Int number) = ask (ArrayStore array place (Int number))
element_held headers array place (Long number) = ask (ArrayStore array place (Long number))
element_held headers array place Null = ask (ArrayStore array place Null)
element_held headers array place (Ref reference) =
    then_on (there (element_of array.class)) (λ element.
    if is_subtype headers reference.class element then ask (ArrayStore array place (Ref reference)) else trap (codes "java/lang/ArrayStoreException"))

-- a value that goes into the element at an index
abbrev pub element_written : List Header → Value → Value → Value → Reply (Option Value)
element_written headers array index value = with_place array index (λ reference place. element_held headers reference place value)

-- the ints that values are
abbrev pub with_ints : {A : Type 0} → List Value → (List ℤ → Reply A) → Reply A
with_ints [] next = next []
with_ints (first ∷ rest) next = with_int first (λ number. with_ints rest (λ numbers. next (number ∷ numbers)))

-- a new array of this type: a size below 0 traps, once all sizes are evaluated (15.10.1)
abbrev pub array_made : JType → List Value → Reply Value
array_made type sizes =
    with_ints sizes (λ numbers.
    if list_any (λ size. int_lt size (pos 0)) numbers then trap (codes "java/lang/NegativeArraySizeException") else ask_value (NewArray type numbers))

-- ---- calls

-- a call of a target: on an object that isn't null, or, where the method is static, without one (15.12.4)
abbrev pub called : Target → Value → List Value → Reply (Option Value)
called target object arguments = by_kind target.kind
  where
    on_object : InvokeKind → Reply (Option Value)
    on_object kind = with_object object (λ reference. ask (Invoke kind target.owner target.name target.descriptor (Ref reference ∷ arguments)))

    by_kind : InvokeKind → Reply (Option Value)
    by_kind Static = ask (Invoke Static target.owner target.name target.descriptor arguments)
    by_kind Virtual = on_object Virtual
    by_kind Interface = on_object Interface
    by_kind Special = on_object Special
