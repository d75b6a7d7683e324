-- The types of the machine and its descriptors as plain data (JVMS 4.3.2, 4.3.3).
use Rattle.std.specs.Prelude.{ℕ, List, [], map, Option, Some, option_map}
use Rattle.dj_names.specs.declared.types.JType as code
use Rattle.dj_names.specs.declared.types.JType.TheOpen as layer
use Rattle.dj_names.specs.declared.descriptor.Descriptor as code_descriptor
use Rattle.dj_names.specs.declared.descriptor.Descriptor.TheVariants as variants
use Rattle.dj_names.specs.declared.static_type.StaticType as code_static
use Rattle.dj_names.specs.declared.static_type.StaticType.TheVariants as static_variants

-- a primitive type, a class or interface by the units of its name, or an array of a type
pub data JType : Type 0 where
  Boolean : JType
  Byte : JType
  Char : JType
  Short : JType
  Int : JType
  Long : JType
  Float : JType
  Double : JType
  Class : List ℕ → JType
  Array : JType → JType

-- one layer of a type in the code, with its element's type seen already
abbrev pub type_layer : layer.JType-F JType → JType
type_layer layer.Boolean = Boolean
type_layer layer.Byte = Byte
type_layer layer.Char = Char
type_layer layer.Short = Short
type_layer layer.Int = Int
type_layer layer.Long = Long
type_layer layer.Float = Float
type_layer layer.Double = Double
type_layer (layer.Class name) = Class name
type_layer (layer.Array element) = Array element

-- a type of the code, seen as plain data
abbrev pub view_type : code.JType → JType
view_type = code.fold-JType JType type_layer

-- types of the code, in order
abbrev pub view_types : List code.JType → List JType
view_types = map view_type

-- a field's type, or a method's parameter types and its result, None for `void`
pub data Descriptor : Type 0 where
  Field : JType → Descriptor
  Method : List JType → Option JType → Descriptor

-- the parameter types of a descriptor
abbrev pub parameters_of : Descriptor → List JType
parameters_of (Field kind) = []
parameters_of (Method parameters result) = parameters

-- the result of a descriptor, None for `void`
abbrev pub result_of : Descriptor → Option JType
result_of (Field kind) = Some kind
result_of (Method parameters result) = result

-- a descriptor of the code, seen as plain data
abbrev pub view_descriptor : code_descriptor.Descriptor → Descriptor
view_descriptor (variants.Field kind) = Field (view_type kind)
view_descriptor (variants.Method parameters result) = Method (view_types parameters) (option_map view_type result)

-- the type of `null`, or a type of the machine
pub data StaticType : Type 0 where
  Null : StaticType
  Of : JType → StaticType

-- a type of an expression of the code, seen as plain data
abbrev pub view_static : code_static.StaticType → StaticType
view_static static_variants.Null = Null
view_static (static_variants.Of kind) = Of (view_type kind)
