-- What instructions on members, arrays and classes build.
use Rattle.std.specs.Prelude.{ℕ, ◌+◌, Bool, true, false, if◌then◌else◌, codes, List, [], ◌∷◌, Option, Some, None}
use Rattle.dj_names.specs.declared.header.Header.{Header}
use Rattle.dj_names.specs.Types as types
use Rattle.dj_names.specs.Types.{JType, Class, Array, Of, result_of}
use Rattle.dj_syntax.specs.Trees.{Exp, ClassOf, Field, Static, Element, Cast, InstanceOf, SetField, SetStatic, SetElement}
use Rattle.dj_values.specs.Values.{Virtual, Interface}
use Rattle.dj_values.specs.Fits.{class_of}
use Rattle.dj_values.specs.Deciding.{is_reference}
use Rattle.dj_instructions.specs.declared.kinds.Element as elements
use Rattle.dj_instructions.specs.declared.kinds.Element.TheVariants as element
use Rattle.dj_instructions.specs.Instructions.{FieldRef, Instruction}
use Rattle.dj_instructions.specs.Instructions as op
use Rattle.dj_bytecode.specs.Meanings.{arguments_of}
use Rattle.dj_meaning.specs.Targets.{result}
use Rattle.dj_places.specs.Constants.{Surroundings}
use Rattle.dj_members_shown.specs.Casts.{dressed}
use Rattle.dj_members_shown.specs.Meant.{asked_of}
use Rattle.dj_rebuilding.specs.Pending.{Pending, Typed, Whole, Built, set_field, set_static, set_element, and_then, grown}
use Rattle.dj_member_nodes.specs.Nodes.{element_in}
use Rattle.dj_pending.specs.Operands.{taken_from}
use Rattle.dj_member_trees.specs.Fitting.{taken_by, itself, fitted, whole, cast_operand, test_operand, array_for, written_as, array_of_sizes}
use Rattle.dj_member_trees.specs.Calling.{effect_put, object_called, class_called, called_built, special_built}

-- ---- fields

-- a read of an object's field
abbrev pub field_read : List Header → FieldRef → ℕ → List Pending → Option Built
field_read world field n stack = and_then (taken_by (fitted world false field.owner) stack) (λ object. grown n (Whole (Of field.kind) (Field object.0 field.name) ∷ object.1))

-- of a class's field
abbrev pub static_read : FieldRef → ℕ → List Pending → Option Built
static_read field n stack = and_then (class_of field.owner) (λ class. grown n (Whole (Of field.kind) (Static class field.name) ∷ stack))

-- and writes
abbrev pub field_written : List Header → FieldRef → ℕ → List Pending → Option Built
field_written world field n stack =
    and_then (taken_by (fitted world true field.kind) stack) (λ new. and_then (taken_by (fitted world false field.owner) new.1) (λ object.
    effect_put n object.1 (Some (SetField object.0 field.name new.0, set_field))))

abbrev pub static_written : List Header → FieldRef → ℕ → List Pending → Option Built
static_written world field n stack =
    and_then (class_of field.owner) (λ class. and_then (taken_by (fitted world true field.kind) stack) (λ new. effect_put n new.1 (Some (SetStatic class field.name new.0, set_static))))

-- ---- classes

-- a class constant
abbrev pub class_pushed : JType → ℕ → List Pending → Option Built
class_pushed type n stack = if is_reference type then grown n (Whole (Of (Class (codes "java/lang/Class"))) (ClassOf type) ∷ stack) else None

-- a cast
abbrev pub object_cast : List Header → JType → ℕ → List Pending → Option Built
object_cast world type n stack = and_then (taken_by (cast_operand world type) stack) (λ object. grown n (Whole (Of type) (Cast type object.0) ∷ object.1))

-- `instanceof`
abbrev pub object_tested : List Header → JType → ℕ → List Pending → Option Built
object_tested world type n stack = and_then (taken_by (test_operand world type) stack) (λ object. grown n (Whole (Of types.Boolean) (InstanceOf object.0 type) ∷ object.1))

-- ---- arrays

-- a read of an element
abbrev pub element_read : List Header → elements.Element → ℕ → List Pending → Option Built
element_read world kind n stack =
    and_then (taken_by whole stack) (λ index. and_then (taken_by (array_for world kind) index.1) (λ array. grown n (Whole array.0.0 (Element array.0.1 index.0) ∷ array.1)))

-- an array's length, as it is read of an operand
abbrev pub length_built : List Header → ℕ → List Pending → Option Built
length_built world n stack =
    and_then (taken_by itself stack) (λ array. and_then (element_in element.Int array.0.0) (λ type.
    grown n (Whole (Of types.Int) (Field (dressed world false array.0.0 (Array type) array.0.1) (codes "length")) ∷ array.1)))

-- a write of an element, given what is written where, as it stands in the statement
abbrev pub element_put : ℕ → List Pending → Exp → Exp → Exp → Option Built
element_put n below into index put = effect_put n below (Some (SetElement into index put, set_element))

-- given the value as it stands there
abbrev pub element_into : List Header → JType → ℕ → List Pending → Typed → Exp → Exp → Option Built
element_into world stored n below array index put = and_then (fitted world false (Array stored) array) (λ into. element_put n below into index put)

-- as elements of a type
abbrev pub element_as : List Header → JType → ℕ → List Pending → Typed → Exp → Typed → Option Built
element_as world stored n below array index new = and_then (fitted world true stored new) (λ put. element_into world stored n below array index put)

-- of a type that is found
abbrev pub element_found : List Header → ℕ → List Pending → Typed → Exp → Typed → Option JType → Option Built
element_found world n below array index new found = and_then found (λ stored. element_as world stored n below array index new)

-- given the operands
abbrev pub element_given : List Header → elements.Element → ℕ → List Pending → Typed → Exp → Typed → Option Built
element_given world kind n below array index new = element_found world n below array index new (written_as world kind array.0 new.0)

-- the array is on top
abbrev pub element_at : List Header → elements.Element → ℕ → List Pending → Exp → Typed → Option Built
element_at world kind n stack index new = and_then (taken_by itself stack) (λ array. element_given world kind n array.1 array.0 index new)

-- the index is
abbrev pub element_of : List Header → elements.Element → ℕ → List Pending → Typed → Option Built
element_of world kind n stack new = and_then (taken_by whole stack) (λ index. element_at world kind n index.1 index.0 new)

-- the value is
abbrev pub element_written : List Header → elements.Element → ℕ → List Pending → Option Built
element_written world kind n stack = and_then (taken_by itself stack) (λ new. element_of world kind n new.1 new.0)

-- a new array
abbrev pub array_built : JType → ℕ → ℕ → List Pending → Option Built
array_built type count n stack = and_then (taken_from count [] stack) (λ found. and_then (array_of_sizes type found.0) (λ exp. grown n (Whole (Of type) exp ∷ found.1)))

-- ---- by instructions

-- an instruction is one on members, arrays or classes
abbrev pub is_member : Instruction → Bool
is_member op.Nop = false
is_member op.PushNull = false
is_member (op.Push constant) = false
is_member (op.PushClass type) = true
is_member (op.PushHandle kind interface owner name descriptor) = false
is_member (op.PushMethodType descriptor) = false
is_member (op.Load kind slot) = false
is_member (op.Store kind slot) = false
is_member (op.ArrayLoad kind) = true
is_member (op.ArrayStore kind) = true
is_member op.Pop = false
is_member op.Pop2 = false
is_member op.Dup = false
is_member op.DupX1 = false
is_member op.DupX2 = false
is_member op.Dup2 = false
is_member op.Dup2X1 = false
is_member op.Dup2X2 = false
is_member op.Swap = false
is_member (op.Calc operation kind) = false
is_member (op.Iinc slot by) = false
is_member (op.Convert from to) = false
is_member (op.Compare kind greater) = false
is_member (op.IfZero test target) = false
is_member (op.IfInts test target) = false
is_member (op.IfRefs equal target) = false
is_member (op.IfNull null target) = false
is_member (op.Goto target) = false
is_member (op.TableSwitch low targets other) = false
is_member (op.LookupSwitch cases other) = false
is_member (op.Return kind) = false
is_member (op.GetStatic field) = true
is_member (op.PutStatic field) = true
is_member (op.GetField field) = true
is_member (op.PutField field) = true
is_member (op.InvokeVirtual method) = true
is_member (op.InvokeSpecial method) = true
is_member (op.InvokeStatic method) = true
is_member (op.InvokeInterface method) = true
is_member (op.InvokeDynamic bootstrap name descriptor) = false
is_member (op.New name) = false
is_member (op.NewArray type) = true
is_member (op.MultiNewArray type sizes) = true
is_member op.ArrayLength = true
is_member op.Throw = false
is_member (op.CheckCast type) = true
is_member (op.InstanceOf type) = true
is_member op.MonitorEnter = false
is_member op.MonitorExit = false

-- what such an instruction builds; another one builds nothing
abbrev pub member_built : Surroundings → Instruction → ℕ → List Pending → Option Built
member_built known op.Nop n stack = None
member_built known op.PushNull n stack = None
member_built known (op.Push constant) n stack = None
member_built known (op.PushClass type) n stack = class_pushed type n stack
member_built known (op.PushHandle kind interface owner name descriptor) n stack = None
member_built known (op.PushMethodType descriptor) n stack = None
member_built known (op.Load kind slot) n stack = None
member_built known (op.Store kind slot) n stack = None
member_built known (op.ArrayLoad kind) n stack = element_read known.headers kind n stack
member_built known (op.ArrayStore kind) n stack = element_written known.headers kind n stack
member_built known op.Pop n stack = None
member_built known op.Pop2 n stack = None
member_built known op.Dup n stack = None
member_built known op.DupX1 n stack = None
member_built known op.DupX2 n stack = None
member_built known op.Dup2 n stack = None
member_built known op.Dup2X1 n stack = None
member_built known op.Dup2X2 n stack = None
member_built known op.Swap n stack = None
member_built known (op.Calc operation kind) n stack = None
member_built known (op.Iinc slot by) n stack = None
member_built known (op.Convert from to) n stack = None
member_built known (op.Compare kind greater) n stack = None
member_built known (op.IfZero test target) n stack = None
member_built known (op.IfInts test target) n stack = None
member_built known (op.IfRefs equal target) n stack = None
member_built known (op.IfNull null target) n stack = None
member_built known (op.Goto target) n stack = None
member_built known (op.TableSwitch low targets other) n stack = None
member_built known (op.LookupSwitch cases other) n stack = None
member_built known (op.Return kind) n stack = None
member_built known (op.GetStatic field) n stack = static_read field n stack
member_built known (op.PutStatic field) n stack = static_written known.headers field n stack
member_built known (op.GetField field) n stack = field_read known.headers field n stack
member_built known (op.PutField field) n stack = field_written known.headers field n stack
member_built known (op.InvokeVirtual method) n stack = called_built (arguments_of method.descriptor + 1) (object_called known method) (result (asked_of Virtual method.owner method)) n stack
member_built known (op.InvokeSpecial method) n stack = special_built known method n stack
member_built known (op.InvokeStatic method) n stack = called_built (arguments_of method.descriptor) (class_called known method) (result_of method.descriptor) n stack
member_built known (op.InvokeInterface method) n stack = called_built (arguments_of method.descriptor + 1) (object_called known method) (result (asked_of Interface method.owner method)) n stack
member_built known (op.InvokeDynamic bootstrap name descriptor) n stack = None
member_built known (op.New name) n stack = None
member_built known (op.NewArray type) n stack = array_built (Array type) 1 n stack
member_built known (op.MultiNewArray type sizes) n stack = array_built type sizes n stack
member_built known op.ArrayLength n stack = length_built known.headers n stack
member_built known op.Throw n stack = None
member_built known (op.CheckCast type) n stack = object_cast known.headers type n stack
member_built known (op.InstanceOf type) n stack = object_tested known.headers type n stack
member_built known op.MonitorEnter n stack = None
member_built known op.MonitorExit n stack = None
