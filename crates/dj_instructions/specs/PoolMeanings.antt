-- What instructions mean by what an index of the pool names (JVMS 4.9.1, 6.5).
use Rattle.std.specs.Prelude.{◌≡◌, ℕ, ◌-◌, ◌==◌, nat_le, Bool, ◌&&◌, ◌||◌, not, if◌then◌else◌, List, [], ◌∷◌, slice_get, Option, Some, None, option_map, codes}
use Rattle.std.specs.Int.{is_in_range}
use Rattle.std.specs.Option.{option_and_then}
use Rattle.dj_names.specs.declared.members.Constant.TheVariants as constant
use Rattle.dj_names.specs.Types.{JType, Boolean, Byte, Char, Short, Int, Long, Float, Double, Class, Array, Descriptor, Field, Method}
use Rattle.dj_names.specs.Descriptors.{dimensions}
use Rattle.dj_names.specs.MethodNames.{is_constructor, is_initialiser}
use Rattle.dj_pool.specs.declared.entry.Entry.{Entry}
use Rattle.dj_pool.specs.declared.entry.Entry.TheVariants as entry
use Rattle.dj_pool.specs.PoolFormat.{text_at}
use Rattle.dj_instructions.specs.Instructions.{FieldRef, MethodRef, Instruction, Push, PushClass, PushHandle, PushMethodType, GetStatic, PutStatic, GetField, PutField, InvokeVirtual, InvokeSpecial, InvokeStatic, InvokeInterface, InvokeDynamic, New, NewArray, MultiNewArray}
use Rattle.dj_instructions.specs.PoolNames.{Member, Reference, NamesType, NamesDescriptor, NamesMember, NamesReference}

-- what an instruction means: at once, or by what an index of the pool names
pub data Meaning : Type 0 where
  Known : Option Instruction → Meaning
  OfType : ℕ → (JType → Option Instruction) → Meaning
  OfDescriptor : ℕ → (Descriptor → Option Instruction) → Meaning
  OfMember : ℕ → (Member → Option Instruction) → Meaning
  OfReference : ℕ → (Reference → Option Instruction) → Meaning

-- the instruction is what is meant, by the pool
abbrev pub IsMeant : List Entry → Meaning → Instruction → Type 0
IsMeant pool (Known found) instruction = found ≡ Some instruction
IsMeant pool (OfType index made) instruction = (type : JType) × NamesType pool index type × (made type ≡ Some instruction)
IsMeant pool (OfDescriptor index made) instruction = (descriptor : Descriptor) × NamesDescriptor pool index descriptor × (made descriptor ≡ Some instruction)
IsMeant pool (OfMember index made) instruction = (member : Member) × NamesMember pool index member × (made member ≡ Some instruction)
IsMeant pool (OfReference index made) instruction = (reference : Reference) × NamesReference pool index reference × (made reference ≡ Some instruction)

-- ---- constants of the pool

-- `ldc` and `ldc_w` take what is one word (JVMS 6.5, `ldc`)
abbrev pub word_constant : List Entry → ℕ → Option Entry → Meaning
word_constant pool index None = Known None
word_constant pool index (Some entry.Skip) = Known None
word_constant pool index (Some (entry.Utf8 units)) = Known None
word_constant pool index (Some (entry.Integer number)) = Known (Some (Push (constant.Int number)))
word_constant pool index (Some (entry.Float bits)) = Known (Some (Push (constant.Float bits)))
word_constant pool index (Some (entry.Long number)) = Known None
word_constant pool index (Some (entry.Double bits)) = Known None
word_constant pool index (Some (entry.Class name)) = OfType index (λ type. Some (PushClass type))
word_constant pool index (Some (entry.Text units)) = Known (option_map (λ text. Push (constant.Text text)) (text_at pool units))
word_constant pool index (Some (entry.FieldRef class member)) = Known None
word_constant pool index (Some (entry.MethodRef class member)) = Known None
word_constant pool index (Some (entry.InterfaceMethodRef class member)) = Known None
word_constant pool index (Some (entry.NameAndType name descriptor)) = Known None
word_constant pool index (Some (entry.MethodHandle kind reference)) = OfReference reference (λ r. Some (PushHandle kind (r.tag == 11) r.owner r.member.name r.member.descriptor))
word_constant pool index (Some (entry.MethodType descriptor)) = OfDescriptor descriptor (λ d. Some (PushMethodType d))
word_constant pool index (Some (entry.InvokeDynamic bootstrap member)) = Known None

-- `ldc2_w` takes what is two words (JVMS 6.5, `ldc2_w`)
abbrev pub long_constant : Option Entry → Option Instruction
long_constant None = None
long_constant (Some entry.Skip) = None
long_constant (Some (entry.Utf8 units)) = None
long_constant (Some (entry.Integer number)) = None
long_constant (Some (entry.Float bits)) = None
long_constant (Some (entry.Long number)) = Some (Push (constant.Long number))
long_constant (Some (entry.Double bits)) = Some (Push (constant.Double bits))
long_constant (Some (entry.Class name)) = None
long_constant (Some (entry.Text units)) = None
long_constant (Some (entry.FieldRef class member)) = None
long_constant (Some (entry.MethodRef class member)) = None
long_constant (Some (entry.InterfaceMethodRef class member)) = None
long_constant (Some (entry.NameAndType name descriptor)) = None
long_constant (Some (entry.MethodHandle kind reference)) = None
long_constant (Some (entry.MethodType descriptor)) = None
long_constant (Some (entry.InvokeDynamic bootstrap member)) = None

-- ---- fields and methods

-- the field of a descriptor, if it is a field's
abbrev pub field_with : JType → List ℕ → Descriptor → Option FieldRef
field_with owner name (Field kind) = Some (record { owner = owner; name = name; kind = kind })
field_with owner name (Method parameters result) = None

-- the method of a descriptor, if it is a method's
abbrev pub method_with : JType → Bool → List ℕ → Descriptor → Option MethodRef
method_with owner interface name (Field kind) = None
method_with owner interface name (Method parameters result) = Some (record { owner = owner; interface = interface; name = name; descriptor = Method parameters result })

-- the field of a Fieldref
abbrev pub field_of : Reference → Option FieldRef
field_of r = if r.tag == 9 then field_with r.owner r.member.name r.member.descriptor else None

-- the method of a Methodref or an InterfaceMethodref
abbrev pub method_of : Reference → Option MethodRef
method_of r = if (r.tag == 10) || (r.tag == 11) then method_with r.owner (r.tag == 11) r.member.name r.member.descriptor else None

-- an access to a field
abbrev pub access : ℕ → FieldRef → Option Instruction
access op field =
    if op == 178 then Some (GetStatic field)  -- `getstatic`
    else (if op == 179 then Some (PutStatic field)  -- `putstatic`
    else (if op == 180 then Some (GetField field)  -- `getfield`
    else (if op == 181 then Some (PutField field)  -- `putfield`
    else None)))

-- an access to the field that a reference leads to
abbrev pub access_of : ℕ → Reference → Option Instruction
access_of op r = option_and_then (access op) (field_of r)

-- neither the name of a constructor nor that of a static initialiser (JVMS 4.9.1)
abbrev pub is_plain_name : List ℕ → Bool
is_plain_name name = not (is_constructor name || is_initialiser name)

-- a call of a method (JVMS 4.9.1)
abbrev pub call : ℕ → MethodRef → Option Instruction
call op method =
    if op == 182 then (if is_plain_name method.name && not method.interface then Some (InvokeVirtual method) else None)  -- `invokevirtual`
    else (if op == 183 then (if is_initialiser method.name then None else Some (InvokeSpecial method))  -- `invokespecial`
    else (if op == 184 then (if is_plain_name method.name then Some (InvokeStatic method) else None)  -- `invokestatic`
    else (if op == 185 then (if is_plain_name method.name && method.interface then Some (InvokeInterface method) else None)  -- `invokeinterface`
    else None)))

-- a call of the method that a reference leads to
abbrev pub call_of : ℕ → Reference → Option Instruction
call_of op r = option_and_then (call op) (method_of r)

-- a call site of a method's descriptor (JVMS 6.5, `invokedynamic`)
abbrev pub dynamic_call : ℕ → List ℕ → Descriptor → Option Instruction
dynamic_call bootstrap name (Field kind) = None
dynamic_call bootstrap name (Method parameters result) = if is_plain_name name then Some (InvokeDynamic bootstrap name (Method parameters result)) else None

-- `invokedynamic` of the entry at an index
abbrev pub dynamic : Option Entry → Meaning
dynamic None = Known None
dynamic (Some entry.Skip) = Known None
dynamic (Some (entry.Utf8 units)) = Known None
dynamic (Some (entry.Integer number)) = Known None
dynamic (Some (entry.Float bits)) = Known None
dynamic (Some (entry.Long number)) = Known None
dynamic (Some (entry.Double bits)) = Known None
dynamic (Some (entry.Class name)) = Known None
dynamic (Some (entry.Text units)) = Known None
dynamic (Some (entry.FieldRef class member)) = Known None
dynamic (Some (entry.MethodRef class member)) = Known None
dynamic (Some (entry.InterfaceMethodRef class member)) = Known None
dynamic (Some (entry.NameAndType name descriptor)) = Known None
dynamic (Some (entry.MethodHandle kind reference)) = Known None
dynamic (Some (entry.MethodType descriptor)) = Known None
dynamic (Some (entry.InvokeDynamic bootstrap member)) = OfMember member (λ m. dynamic_call bootstrap m.name m.descriptor)

-- ---- types

-- an object of a class that isn't an array
abbrev pub new_object : JType → Option Instruction
new_object Boolean = None
new_object Byte = None
new_object Char = None
new_object Short = None
new_object Int = None
new_object Long = None
new_object Float = None
new_object Double = None
new_object (Class name) = Some (New name)
new_object (Array element) = None

-- an array of such elements, at most 255 dimensions of it (JVMS 4.9.1)
abbrev pub array_of : JType → Option Instruction
array_of element = if nat_le (dimensions element) 254 then Some (NewArray element) else None

-- an array with so many sizes, one or more and not more than it has dimensions (JVMS 4.9.1)
abbrev pub sized_array : ℕ → JType → Option Instruction
sized_array sizes type = if is_in_range 1 (dimensions type) sizes then Some (MultiNewArray type sizes) else None

-- the types of the elements of `newarray` from 4 on (JVMS table 6.5.newarray-A)
abbrev pub primitives : List JType
primitives = Boolean ∷ Char ∷ Float ∷ Double ∷ Byte ∷ Short ∷ Int ∷ Long ∷ []

-- the type that an operand of `newarray` stands for
abbrev pub primitive_of : ℕ → Option JType
primitive_of x = if nat_le 4 x then slice_get primitives (x - 4) else None

-- `newarray` with this operand
abbrev pub primitive_array : ℕ → Option Instruction
primitive_array x = option_map NewArray (primitive_of x)
