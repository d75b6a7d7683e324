-- A test of the classes of a world: that it has the core of classes, and that members are as the laws on bodies ask (JLS 10.7, 11.1.1; JVMS 4.7.2).
use Rattle.std.specs.Prelude.{◌≡◌, ℕ, ◌==◌, ◌&&◌, ◌||◌, not, Bool, true, if◌then◌else◌, List, [], ◌∷◌, length, map, is_some, Option, Some, None, codes}
use Rattle.std.specs.Str.{bytes_eq}
use Rattle.std.specs.List.{list_all}
use Rattle.dj_names.specs.declared.header.Header.{Header}
use Rattle.dj_names.specs.declared.members.Constant.{Constant}
use Rattle.dj_names.specs.declared.members.Constant.TheVariants as constant
use Rattle.dj_names.specs.declared.members.Field.{Field}
use Rattle.dj_names.specs.declared.members.MethodHead.{MethodHead}
use Rattle.dj_names.specs.declared.members.ClassMembers.{ClassMembers}
use Rattle.dj_names.specs.Types as types
use Rattle.dj_names.specs.Types.{JType, Boolean, Byte, Char, Short, Float, Double, Class, Array, view_type, view_descriptor, parameters_of, result_of}
use Rattle.dj_names.specs.Assignable.{object_name}
use Rattle.dj_values.specs.Fits.{throwable_name}
use Rattle.dj_values.specs.Deciding.{is_subclass}
use Rattle.dj_world.specs.Worlds.{WorldOf, IsWorld}
use Rattle.dj_meaning.specs.Members.{view_members}
use Rattle.dj_typing.specs.Sites.{has_header}
use Rattle.dj_loaded.specs.Loaded.{HasCore}
use Rattle.dj_held.specs.Running.{AreMembers}

-- ---- constants

-- which constants a field of a type may have: ints, longs, floats, doubles or texts, or none
abbrev pub kind_of : JType → ℕ
kind_of Boolean = 1
kind_of Byte = 1
kind_of Char = 1
kind_of Short = 1
kind_of types.Int = 1
kind_of types.Long = 2
kind_of Float = 3
kind_of Double = 4
kind_of (Class name) = if bytes_eq name (codes "java/lang/String") then 5 else 0
kind_of (Array element) = 0

-- and which a constant is
abbrev pub number_of : Constant → ℕ
number_of (constant.Int number) = 1
number_of (constant.Long number) = 2
number_of (constant.Float bits) = 3
number_of (constant.Double bits) = 4
number_of (constant.Text units) = 5

-- a field's constant, where it has one, is of its type
abbrev pub fits : JType → Option Constant → Bool
fits type None = true
fits type (Some kept) = kind_of type == number_of kept

abbrev pub field_fits : Field → Bool
field_fits field = fits (view_type field.descriptor) field.constant

-- so is each of a class
abbrev pub class_fits : ClassMembers → Bool
class_fits members = list_all field_fits members.fields

-- ---- the method `clone`

-- a method gives a value, where it has this name and no parameters
abbrev pub gives : MethodHead → Bool
gives method = not (bytes_eq method.name (codes "clone") && length (parameters_of (view_descriptor method.descriptor)) == 0) || is_some (result_of (view_descriptor method.descriptor))

-- so does each method of Object, the first class of that name
abbrev pub objects_give : List Header → List ClassMembers → Bool
objects_give [] members = true
objects_give (header ∷ headers) [] = true
objects_give (header ∷ headers) (first ∷ rest) = if bytes_eq header.name object_name then list_all gives first.methods else objects_give headers rest

-- ---- the world

-- it has Object, and Throwable below it, and its members are right
abbrev pub is_known_world : List Header → List ClassMembers → Bool
is_known_world headers members = list_all class_fits members && objects_give headers members && has_header headers object_name && is_subclass headers throwable_name object_name

-- so much is known of a world that passes
abbrev pub KnownWorlds : Type 0
KnownWorlds =
    (world : WorldOf) → IsWorld world → is_known_world world.headers world.members ≡ true → HasCore world.headers × AreMembers world.headers (map view_members world.members)
