-- Objects, arrays, calls and monitors (JVMS 2.11.5, 2.11.6, 2.11.8, 2.11.10, 6.5).
use Rattle.std.specs.Prelude.{ℤ, pos, ℕ, ◌==◌, ◌&&◌, not, Bool, true, false, int_lt, int_le, List, [], ◌∷◌, ◌++◌, Option, Some, None, if◌then◌else◌, codes}
use Rattle.std.specs.List.{list_any}
use Rattle.std.specs.Int.{w32, cast_signed}
use Rattle.dj_names.specs.declared.header.Header.{Header}
use Rattle.dj_names.specs.Headers.{Name}
use Rattle.dj_names.specs.MethodNames.{is_constructor}
use Rattle.dj_names.specs.Types.{JType, Class, parameters_of}
use Rattle.dj_values.specs.Values.{RefId, Numbered, Text, RefValue, Value, Int, Long, Null, Ref, InvokeKind, Static, NewArray, GetField, PutField, GetStatic, PutStatic, ArrayLoad, ArrayStore, Invoke, Enter, Exit}
use Rattle.dj_values.specs.Fits.{class_of, element_of}
use Rattle.dj_values.specs.Deciding.{is_name, is_subclass, is_subtype, is_some_and}
use Rattle.dj_values.specs.Outcomes.{Throws, Stuck, Reply, Gives, Halts, then_on, ask, trap, there}
use Rattle.dj_instructions.specs.Instructions.{FieldRef, MethodRef}
use Rattle.dj_bytecode.specs.Operands.{with_one, with_two, with_three, with_int, with_ints, with_object, fitted, all_fitted}

-- ---- fields

-- `getstatic`
abbrev pub static_read : FieldRef → List Value → Reply (Option Value)
static_read field operands = ask (GetStatic field.owner field.name field.kind)

-- `putstatic`
abbrev pub static_written : FieldRef → List Value → Reply (Option Value)
static_written field operands =
    with_one operands (λ value. then_on (fitted field.kind value) (λ kept. ask (PutStatic field.owner field.name field.kind kept)))

-- `getfield`
abbrev pub field_read : FieldRef → List Value → Reply (Option Value)
field_read field operands = with_one operands (λ receiver. with_object receiver (λ object. ask (GetField object field.owner field.name field.kind)))

-- `putfield`
abbrev pub field_written : FieldRef → List Value → Reply (Option Value)
field_written field operands =
    with_two operands (λ receiver value. with_object receiver (λ object. then_on (fitted field.kind value) (λ kept. ask (PutField object field.owner field.name field.kind kept))))

-- ---- arrays

-- an index within an array; another one traps
abbrev pub with_element : {A : Type 0} → RefValue → ℤ → Reply A → Reply A
with_element array index next = if int_le (pos 0) index && int_lt index (pos array.length) then next else trap (codes "java/lang/ArrayIndexOutOfBoundsException")

-- an array's element of this type takes a value; one that doesn't go there traps (JVMS 6.5, `aastore`)
abbrev pub stored : List Header → RefValue → ℤ → JType → Value → Reply (Option Value)
stored headers array index element (Int number) = then_on (fitted element (Int number)) (λ kept. ask (ArrayStore array index kept))
stored headers array index element (Long number) = then_on (fitted element (Long number)) (λ kept. ask (ArrayStore array index kept))
stored headers array index element Null = then_on (fitted element Null) (λ kept. ask (ArrayStore array index kept))
stored headers array index element (Ref reference) =
    if is_subtype headers reference.class element then ask (ArrayStore array index (Ref reference)) else trap (codes "java/lang/ArrayStoreException")

-- `iaload` and those like it
abbrev pub element_read : List Value → Reply (Option Value)
element_read operands =
    with_two operands (λ receiver place. with_int place (λ index. with_object receiver (λ array. with_element array index (ask (ArrayLoad array index)))))

-- `iastore` and those like it: null, bounds and what the array holds are looked at in this order
abbrev pub element_written : List Header → List Value → Reply (Option Value)
element_written headers operands =
    with_three operands (λ receiver place value. with_int place (λ index. with_object receiver (λ array. with_element array index
    (then_on (there (element_of array.class)) (λ element. stored headers array index element value)))))

-- `arraylength`: the length as an int, which that of each array there is fits
abbrev pub length_read : List Value → Reply (Option Value)
length_read operands = with_one operands (λ receiver. with_object receiver (λ array. Gives (Some (Int (cast_signed w32 array.length)))))

-- sizes, none of them negative
abbrev pub with_sizes : {A : Type 0} → List ℤ → Reply A → Reply A
with_sizes sizes next = if list_any (λ size. int_lt size (pos 0)) sizes then trap (codes "java/lang/NegativeArraySizeException") else next

-- a new array of this type and of these sizes, which are looked at behind one another's evaluation
abbrev pub array_made : JType → List Value → Reply (Option Value)
array_made type operands = with_ints operands (λ sizes. with_sizes sizes (ask (NewArray type sizes)))

-- ---- calls

-- the superclass that a class has by the headers
abbrev pub superclass_in : List Header → Name → Option Name
superclass_in [] class = None
superclass_in (header ∷ rest) class = if is_name header.name class then header.superclass else superclass_in rest class

-- where the search of a method begins that `invokespecial` names in a class: in the direct superclass, where the owner is a class above this one and the method is no constructor (JVMS 6.5, `invokespecial`)
abbrev pub special_owner : List Header → Name → MethodRef → JType
special_owner headers class method = by_superclass (superclass_in headers class)
  where
    -- the owner is the superclass, or above it
    is_above : Name → Bool
    is_above superclass = is_some_and (class_of method.owner) (λ owner. is_subclass headers superclass owner)

    by_superclass : Option Name → JType
    by_superclass None = method.owner
    by_superclass (Some superclass) = if not (is_constructor method.name) && is_above superclass then Class superclass else method.owner

-- a call with these arguments, the receiver first where there is one
abbrev pub called : InvokeKind → JType → MethodRef → List Value → List Value → Reply (Option Value)
called kind owner method receiver arguments =
    then_on (all_fitted (parameters_of method.descriptor) arguments) (λ kept. ask (Invoke kind owner method.name method.descriptor (receiver ++ kept)))

-- `invokestatic`
abbrev pub static_called : MethodRef → List Value → Reply (Option Value)
static_called method operands = called Static method.owner method [] operands

-- the other calls: on the first operand, which isn't null
abbrev pub object_called : InvokeKind → JType → MethodRef → List Value → Reply (Option Value)
object_called kind owner method [] = Halts Stuck
object_called kind owner method (receiver ∷ arguments) = with_object receiver (λ object. called kind owner method (Ref object ∷ []) arguments)

-- ---- classes

-- `checkcast`: null is cast to everything
abbrev pub cast_to : List Header → JType → Option RefValue → Reply (Option Value)
cast_to headers type None = Gives (Some Null)
cast_to headers type (Some reference) =
    if is_subtype headers reference.class type then Gives (Some (Ref reference)) else trap (codes "java/lang/ClassCastException")

-- `instanceof`: null is of no type
abbrev pub is_of : List Header → JType → Option RefValue → Bool
is_of headers type None = false
is_of headers type (Some reference) = is_subtype headers reference.class type

-- a boolean is the int 1 or 0
abbrev pub truth : Bool → Value
truth true = Int (pos 1)
truth false = Int (pos 0)

-- two references are one
abbrev pub is_same_id : RefId → RefId → Bool
is_same_id (Numbered first) (Numbered second) = first == second
is_same_id (Numbered first) (Text second) = false
is_same_id (Text first) (Numbered second) = false
is_same_id (Text first) (Text second) = is_name first second

-- likewise, None for null
abbrev pub is_same_reference : Option RefValue → Option RefValue → Bool
is_same_reference None None = true
is_same_reference None (Some second) = false
is_same_reference (Some first) None = false
is_same_reference (Some first) (Some second) = is_same_id first.id second.id

-- the characters of a string constant as a reference (JVMS 5.1)
abbrev pub text_reference : List ℕ → RefValue
text_reference units = record { id = Text units; class = Class (codes "java/lang/String"); length = 0 }

-- ---- exceptions and monitors

-- `athrow`
abbrev pub thrown_out : List Value → Reply (Option Value)
thrown_out operands = with_one operands (λ value. with_object value (λ reference. Halts (Throws reference)))

-- `monitorenter`
abbrev pub entered : List Value → Reply (Option Value)
entered operands = with_one operands (λ value. with_object value (λ monitor. ask (Enter monitor)))

-- `monitorexit`
abbrev pub left : List Value → Reply (Option Value)
left operands = with_one operands (λ value. with_object value (λ monitor. ask (Exit monitor)))
