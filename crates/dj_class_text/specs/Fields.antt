-- The fields that the text of a class shows (JVMS 4.5, 4.7.2; JLS 8.3, 9.3).
use Rattle.std.specs.Prelude.{ℕ, ◌+◌, ◌==◌, ℤ, pos, Bool, not, List, [], ◌∷◌, Option, Some, None, bit_and, if◌then◌else◌}
use Rattle.std.specs.Ordering.{int_eq}
use Rattle.std.specs.Option.{option_and_then}
use Rattle.dj_names.specs.declared.members.Constant.{Constant}
use Rattle.dj_names.specs.declared.members.Constant.TheVariants as constant
use Rattle.dj_names.specs.Types.{JType, Boolean, Byte, Char, Short, Int, Long, Float, Double, Class, Array}
use Rattle.dj_syntax.specs.Trees as trees
use Rattle.dj_syntax.specs.Trees.{Exp, Truth, Text, FieldText}
use Rattle.dj_syntax.specs.WellFormed.{held_field}
use Rattle.dj_class.specs.Described.{ClassOf, FieldOf}
use Rattle.dj_world.specs.Worlds.{WorldOf}
use Rattle.dj_causes.specs.declared.cause.FieldCause.{FieldCause}
use Rattle.dj_causes.specs.FieldCauses.{HasFieldCause}

-- the expression of an int constant in a field of a type: a truth value in a boolean one
abbrev pub int_value : JType → ℤ → Exp
int_value Boolean number = Truth (not (int_eq number (pos 0)))
int_value Byte number = trees.Int number
int_value Char number = trees.Int number
int_value Short number = trees.Int number
int_value Int number = trees.Int number
int_value Long number = trees.Int number
int_value Float number = trees.Int number
int_value Double number = trees.Int number
int_value (Class name) number = trees.Int number
int_value (Array element) number = trees.Int number

-- the expression of a constant in a field of a type, None for a float and a double
abbrev pub value_of : JType → Constant → Option Exp
value_of type (constant.Int number) = Some (int_value type number)
value_of type (constant.Long number) = Some (trees.Long number)
value_of type (constant.Text units) = Some (Text units)
value_of type (constant.Float bits) = None
value_of type (constant.Double bits) = None

-- the value that the text of a field shows: its constant, where it is static (ACC_STATIC, 0x0008)
abbrev pub shown_value : FieldOf → Option Exp
shown_value field = if bit_and field.flags 0x0008 == 0 then None else option_and_then (value_of field.descriptor) field.constant

-- a field with all flags of its file
abbrev pub bare_field : FieldOf → FieldText
bare_field field = record { flags = field.flags; kind = field.descriptor; name = field.name; value = shown_value field }

-- the text of a field, whose flags are those that it gives back
abbrev pub field_text : Bool → FieldOf → FieldText
field_text interface field = let bare = bare_field field in record bare { flags = held_field interface bare }

-- the texts of the fields from a place on: each that has no cause, in file order
pub data ShowsFields (world : WorldOf) (class : ClassOf) (interface : Bool) : ℕ → List FieldOf → List FieldText → Type 0 where
  no_more : {at : ℕ} → ShowsFields world class interface at [] []
  absent : {at : ℕ} {field : FieldOf} {fields : List FieldOf} {texts : List FieldText} (cause : FieldCause) → HasFieldCause world class at cause
      → ShowsFields world class interface (at + 1) fields texts → ShowsFields world class interface at (field ∷ fields) texts
  shown : {at : ℕ} {field : FieldOf} {fields : List FieldOf} {texts : List FieldText} → ((cause : FieldCause) → ¬ HasFieldCause world class at cause)
      → ShowsFields world class interface (at + 1) fields texts → ShowsFields world class interface at (field ∷ fields) (field_text interface field ∷ texts)
