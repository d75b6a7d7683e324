-- How the code's dotted names are seen plainly.
use Rattle.std.specs.Prelude.{option_map}
use Rattle.dj_names.specs.Types.{JType, Boolean, Byte, Char, Short, Int, Long, Float, Double}
use Rattle.dj_syntax.specs.Trees.{view_exp}
use Rattle.dj_tokens.specs.declared.dotted.DottedName as code_name
use Rattle.dj_tokens.specs.declared.dotted.Primitive as code_primitive
use Rattle.dj_tokens.specs.declared.dotted.Primitive.TheVariants as primitives
use Rattle.dj_tokens.specs.Dotted.{DottedName}

-- a primitive type
abbrev pub view_primitive : code_primitive.Primitive → JType
view_primitive primitives.Boolean = Boolean
view_primitive primitives.Byte = Byte
view_primitive primitives.Char = Char
view_primitive primitives.Short = Short
view_primitive primitives.Int = Int
view_primitive primitives.Long = Long
view_primitive primitives.Float = Float
view_primitive primitives.Double = Double

-- a name as far as it is read
abbrev pub view_name : code_name.DottedName → DottedName
view_name name = record {
  value = option_map view_exp name.value;
  primitive = option_map view_primitive name.primitive;
  number = name.number;
  prefix = option_map (λ prefix. prefix.items) name.prefix;
  last = name.last;
  behind_super = name.behind_super;
  is_super = name.is_super;
}
