-- The table of instructions: what each takes and gives, one row each (JVMS 6.5, 4.10.1.9).
use Rattle.std.specs.Prelude.{if◌then◌else◌, List, [], ◌∷◌, ◌++◌, map, replicate, Option, Some, None, option_map, codes}
use Rattle.dj_names.specs.declared.members.Constant.{Constant}
use Rattle.dj_names.specs.declared.members.Constant.TheVariants as constant
use Rattle.dj_names.specs.Types as type
use Rattle.dj_names.specs.Types.{JType, Class, Array, Descriptor, parameters_of, result_of}
use Rattle.dj_names.specs.Headers.{Name}
use Rattle.dj_names.specs.Assignable.{object_name}
use Rattle.dj_names.specs.MethodNames.{is_constructor}
use Rattle.dj_instructions.specs.declared.kinds.Kind.{Kind}
use Rattle.dj_instructions.specs.declared.kinds.Kind.TheVariants as kind
use Rattle.dj_instructions.specs.declared.kinds.Element.{Element}
use Rattle.dj_instructions.specs.declared.kinds.Element.TheVariants as element
use Rattle.dj_instructions.specs.declared.kinds.Calc as calc_type
use Rattle.dj_instructions.specs.declared.kinds.Calc.TheVariants as calc
use Rattle.dj_instructions.specs.Instructions.{Instruction, Nop, PushNull, Push, PushClass, PushHandle, PushMethodType, Load, Store, ArrayLoad, ArrayStore, Pop, Pop2, Dup, DupX1, DupX2, Dup2, Dup2X1, Dup2X2, Swap, Calc, Iinc, Convert, Compare, IfZero, IfInts, IfRefs, IfNull, Goto, TableSwitch, LookupSwitch, Return, GetStatic, PutStatic, GetField, PutField, InvokeVirtual, InvokeSpecial, InvokeStatic, InvokeInterface, InvokeDynamic, New, NewArray, MultiNewArray, ArrayLength, Throw, CheckCast, InstanceOf, MonitorEnter, MonitorExit}
use Rattle.dj_frames.specs.Frames.{Tag, Int, Float, Double, Long, Null, Object, tag_of}
use Rattle.dj_code.specs.MethodCode.{Code}
use Rattle.dj_tags.specs.Goes.{reversed}
use Rattle.dj_effects.specs.Works.{Want, Of, Reference, AnyArray, ByteArray, Work, Plain, Moves, Loads, Stores, Counts, Makes, Bears, Elements, Sets, Supers, Leaves, Never, pop_forms, pop2_forms, dup_forms, dup_x1_forms, dup_x2_forms, dup2_forms, dup2_x1_forms, dup2_x2_forms, swap_forms}
use Rattle.dj_effects.specs.Spelled.{is_spelled, is_kind}

-- ---- tags

-- a reference of a class of this name
abbrev pub object : Name → Tag
object name = Object (Class name)

-- the class of all that can be thrown
abbrev pub throwable_name : Name
throwable_name = codes "java/lang/Throwable"

-- the tag of a kind of numbers
abbrev pub number_tag : Kind → Option Tag
number_tag kind.Int = Some Int
number_tag kind.Long = Some Long
number_tag kind.Float = Some Float
number_tag kind.Double = Some Double
number_tag kind.Ref = None

-- what is pushed for a constant (JVMS 6.5, `ldc`)
abbrev pub constant_tag : Constant → Tag
constant_tag (constant.Int number) = Int
constant_tag (constant.Long number) = Long
constant_tag (constant.Text units) = object (codes "java/lang/String")
constant_tag (constant.Float bits) = Float
constant_tag (constant.Double bits) = Double

-- the kind of a type's values
abbrev pub kind_of : JType → Kind
kind_of type.Boolean = kind.Int
kind_of type.Byte = kind.Int
kind_of type.Char = kind.Int
kind_of type.Short = kind.Int
kind_of type.Int = kind.Int
kind_of type.Long = kind.Long
kind_of type.Float = kind.Float
kind_of type.Double = kind.Double
kind_of (Class name) = kind.Ref
kind_of (Array element) = kind.Ref

-- ---- works of families

-- arguments of these types, the last one on top
abbrev pub arguments : List JType → List Want
arguments parameters = reversed (map (λ type. Of (tag_of type)) parameters)

-- a call with a receiver like these, or none
abbrev pub call : Descriptor → List Want → Work
call descriptor receiver = Plain (arguments (parameters_of descriptor) ++ receiver) (option_map tag_of (result_of descriptor))

-- a call of a constructor, which has no result
abbrev pub birth : Descriptor → JType → Option JType → Work
birth descriptor owner None = Bears (arguments (parameters_of descriptor)) owner
birth descriptor owner (Some result) = Never

-- a call of a method of the class or one above it, on an object of the class
abbrev pub super_call : Code → Descriptor → JType → Work
super_call code descriptor owner =
    Supers owner (arguments (parameters_of descriptor) ++ Of (object code.class) ∷ []) (option_map tag_of (result_of descriptor))

-- the work on numbers of a kind
abbrev pub of_number : Option Tag → (Tag → Work) → Work
of_number None work = Never
of_number (Some tag) work = work tag

-- what a calculation takes, of values of this tag
abbrev pub operands : calc_type.Calc → Tag → List Want
operands calc.Add tag = Of tag ∷ Of tag ∷ []  -- iadd, ladd, fadd, dadd
operands calc.Sub tag = Of tag ∷ Of tag ∷ []  -- isub, lsub, fsub, dsub
operands calc.Mul tag = Of tag ∷ Of tag ∷ []  -- imul, lmul, fmul, dmul
operands calc.Div tag = Of tag ∷ Of tag ∷ []  -- idiv, ldiv, fdiv, ddiv
operands calc.Rem tag = Of tag ∷ Of tag ∷ []  -- irem, lrem, frem, drem
operands calc.Neg tag = Of tag ∷ []  -- ineg, lneg, fneg, dneg
operands calc.Shl tag = Of Int ∷ Of tag ∷ []  -- ishl, lshl
operands calc.Shr tag = Of Int ∷ Of tag ∷ []  -- ishr, lshr
operands calc.Ushr tag = Of Int ∷ Of tag ∷ []  -- iushr, lushr
operands calc.And tag = Of tag ∷ Of tag ∷ []  -- iand, land
operands calc.Or tag = Of tag ∷ Of tag ∷ []  -- ior, lor
operands calc.Xor tag = Of tag ∷ Of tag ∷ []  -- ixor, lxor

-- the type of an array that an element is read from or written to; of bytes there are two
abbrev pub array_of : JType → Want
array_of element = Of (Object (Array element))

-- what reading an element does
abbrev pub read : Element → Work
read element.Int = Plain (Of Int ∷ array_of type.Int ∷ []) (Some Int)  -- iaload
read element.Long = Plain (Of Int ∷ array_of type.Long ∷ []) (Some Long)  -- laload
read element.Float = Plain (Of Int ∷ array_of type.Float ∷ []) (Some Float)  -- faload
read element.Double = Plain (Of Int ∷ array_of type.Double ∷ []) (Some Double)  -- daload
read element.Ref = Elements  -- aaload
read element.Byte = Plain (Of Int ∷ ByteArray ∷ []) (Some Int)  -- baload
read element.Char = Plain (Of Int ∷ array_of type.Char ∷ []) (Some Int)  -- caload
read element.Short = Plain (Of Int ∷ array_of type.Short ∷ []) (Some Int)  -- saload

-- what writing an element does
abbrev pub write : Element → Work
write element.Int = Plain (Of Int ∷ Of Int ∷ array_of type.Int ∷ []) None  -- iastore
write element.Long = Plain (Of Long ∷ Of Int ∷ array_of type.Long ∷ []) None  -- lastore
write element.Float = Plain (Of Float ∷ Of Int ∷ array_of type.Float ∷ []) None  -- fastore
write element.Double = Plain (Of Double ∷ Of Int ∷ array_of type.Double ∷ []) None  -- dastore
write element.Ref = Plain (Of (object object_name) ∷ Of Int ∷ array_of (Class object_name) ∷ []) None  -- aastore
write element.Byte = Plain (Of Int ∷ Of Int ∷ ByteArray ∷ []) None  -- bastore
write element.Char = Plain (Of Int ∷ Of Int ∷ array_of type.Char ∷ []) None  -- castore
write element.Short = Plain (Of Int ∷ Of Int ∷ array_of type.Short ∷ []) None  -- sastore

-- what a return does, by the method's result
abbrev pub leave : Option JType → Option Kind → Work
leave None None = Leaves  -- return
leave None (Some kind) = Never
leave (Some result) None = Never
leave (Some result) (Some kind) = if is_kind (kind_of result) kind then Plain (Of (tag_of result) ∷ []) None else Never  -- ireturn, lreturn, freturn, dreturn, areturn

-- ---- the table

-- what an instruction that an opcode spells does
abbrev pub row : Code → Instruction → Work
row code Nop = Plain [] None  -- nop
row code PushNull = Plain [] (Some Null)  -- aconst_null
row code (Push constant) = Plain [] (Some (constant_tag constant))  -- iconst_m1 to dconst_1, bipush, sipush, ldc, ldc_w, ldc2_w
row code (PushClass class) = Plain [] (Some (object (codes "java/lang/Class")))  -- ldc of a class
row code (PushHandle kind interface owner name descriptor) = Plain [] (Some (object (codes "java/lang/invoke/MethodHandle")))  -- ldc of a method handle
row code (PushMethodType descriptor) = Plain [] (Some (object (codes "java/lang/invoke/MethodType")))  -- ldc of a method type
row code (Load kind slot) = Loads kind slot  -- iload, lload, fload, dload, aload
row code (Store kind slot) = Stores kind slot  -- istore, lstore, fstore, dstore, astore
row code (ArrayLoad element) = read element
row code (ArrayStore element) = write element
row code Pop = Moves pop_forms
row code Pop2 = Moves pop2_forms
row code Dup = Moves dup_forms
row code DupX1 = Moves dup_x1_forms
row code DupX2 = Moves dup_x2_forms
row code Dup2 = Moves dup2_forms
row code Dup2X1 = Moves dup2_x1_forms
row code Dup2X2 = Moves dup2_x2_forms
row code Swap = Moves swap_forms
row code (Calc operation kind) = of_number (number_tag kind) (λ tag. Plain (operands operation tag) (Some tag))
row code (Iinc slot by) = Counts slot  -- iinc
row code (Convert from to) = of_number (number_tag from) (λ tag. Plain (Of tag ∷ []) (Some (tag_of to)))  -- i2l to i2s
row code (Compare kind greater) = of_number (number_tag kind) (λ tag. Plain (Of tag ∷ Of tag ∷ []) (Some Int))  -- lcmp, fcmpl, fcmpg, dcmpl, dcmpg
row code (IfZero test target) = Plain (Of Int ∷ []) None  -- ifeq, ifne, iflt, ifge, ifgt, ifle
row code (IfInts test target) = Plain (Of Int ∷ Of Int ∷ []) None  -- if_icmpeq to if_icmple
row code (IfRefs equal target) = Plain (Reference ∷ Reference ∷ []) None  -- if_acmpeq, if_acmpne
row code (IfNull null target) = Plain (Reference ∷ []) None  -- ifnull, ifnonnull
row code (Goto target) = Plain [] None  -- goto, goto_w
row code (TableSwitch low targets other) = Plain (Of Int ∷ []) None  -- tableswitch
row code (LookupSwitch cases other) = Plain (Of Int ∷ []) None  -- lookupswitch
row code (Return kind) = leave (result_of code.descriptor) kind
row code (GetStatic field) = Plain [] (Some (tag_of field.kind))  -- getstatic
row code (PutStatic field) = Plain (Of (tag_of field.kind) ∷ []) None  -- putstatic
row code (GetField field) = Plain (Of (Object field.owner) ∷ []) (Some (tag_of field.kind))  -- getfield
row code (PutField field) = Sets field.kind field.owner  -- putfield
row code (InvokeVirtual method) = call method.descriptor (Of (Object method.owner) ∷ [])  -- invokevirtual
row code (InvokeSpecial method) =  -- invokespecial
    if is_constructor method.name then birth method.descriptor method.owner (result_of method.descriptor)
    else super_call code method.descriptor method.owner
row code (InvokeStatic method) = call method.descriptor []  -- invokestatic
row code (InvokeInterface method) = call method.descriptor (Of (Object method.owner) ∷ [])  -- invokeinterface
row code (InvokeDynamic bootstrap name descriptor) = call descriptor []  -- invokedynamic
row code (New class) = Makes  -- new
row code (NewArray element) = Plain (Of Int ∷ []) (Some (Object (Array element)))  -- newarray, anewarray
row code (MultiNewArray class sizes) = Plain (replicate sizes (Of Int)) (Some (Object class))  -- multianewarray
row code ArrayLength = Plain (AnyArray ∷ []) (Some Int)  -- arraylength
row code Throw = Plain (Of (object throwable_name) ∷ []) None  -- athrow
row code (CheckCast class) = Plain (Of (object object_name) ∷ []) (Some (Object class))  -- checkcast
row code (InstanceOf class) = Plain (Of (object object_name) ∷ []) (Some Int)  -- instanceof
row code MonitorEnter = Plain (Reference ∷ []) None  -- monitorenter
row code MonitorExit = Plain (Reference ∷ []) None  -- monitorexit

-- what an instruction does
abbrev pub work : Code → Instruction → Work
work code instruction = if is_spelled instruction then row code instruction else Never
