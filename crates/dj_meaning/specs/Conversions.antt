-- What becomes of a value where a type is wanted: assignment, return, call and cast (JLS 5.1.2, 5.1.3, 5.2, 5.3, 5.5).
use Rattle.std.specs.Prelude.{ℤ, pos, List, codes, if◌then◌else◌}
use Rattle.std.specs.Int.{w8, w16, w32, int_bit_and, int_rem_euclid, int_wrap}
use Rattle.dj_names.specs.declared.header.Header.{Header}
use Rattle.dj_names.specs.Types.{JType, Boolean, Byte, Char, Short, Float, Double, Class, Array}
use Rattle.dj_names.specs.Types as types
use Rattle.dj_values.specs.Values.{RefValue, Value, Int, Long, Null, Ref}
use Rattle.dj_values.specs.Deciding.{is_subtype}
use Rattle.dj_values.specs.Outcomes.{More, Stuck, Reply, Gives, Halts, trap}

-- an int where a type is wanted: a narrower one keeps its low bits, a boolean the lowest, a long is as great;
-- what would be a float or double is not followed further
abbrev pub converted_int : JType → ℤ → Reply Value
converted_int Boolean number = Gives (Int (int_bit_and w32 number (pos 1)))
converted_int Byte number = Gives (Int (int_wrap w8 number))
converted_int Char number = Gives (Int (int_rem_euclid number (pos 65536)))
converted_int Short number = Gives (Int (int_wrap w16 number))
converted_int types.Int number = Gives (Int number)
converted_int types.Long number = Gives (Long number)
converted_int Float number = Halts More
converted_int Double number = Halts More
converted_int (Class name) number = Halts Stuck
converted_int (Array element) number = Halts Stuck

-- a long where a type is wanted
abbrev pub converted_long : JType → ℤ → Reply Value
converted_long Boolean number = Halts Stuck
converted_long Byte number = Halts Stuck
converted_long Char number = Halts Stuck
converted_long Short number = Halts Stuck
converted_long types.Int number = Halts Stuck
converted_long types.Long number = Gives (Long number)
converted_long Float number = Halts More
converted_long Double number = Halts More
converted_long (Class name) number = Halts Stuck
converted_long (Array element) number = Halts Stuck

-- a reference or null where a type is wanted
abbrev pub converted_reference : JType → Value → Reply Value
converted_reference Boolean value = Halts Stuck
converted_reference Byte value = Halts Stuck
converted_reference Char value = Halts Stuck
converted_reference Short value = Halts Stuck
converted_reference types.Int value = Halts Stuck
converted_reference types.Long value = Halts Stuck
converted_reference Float value = Halts Stuck
converted_reference Double value = Halts Stuck
converted_reference (Class name) value = Gives value
converted_reference (Array element) value = Gives value

-- a value where a type is wanted
abbrev pub converted : JType → Value → Reply Value
converted type (Int number) = converted_int type number
converted type (Long number) = converted_long type number
converted type Null = converted_reference type Null
converted type (Ref reference) = converted_reference type (Ref reference)

-- ---- casts

-- a long that is cast: to a narrower type by its low bits (5.1.3)
abbrev pub cast_long : JType → ℤ → Reply Value
cast_long Boolean number = Halts Stuck
cast_long Byte number = Gives (Int (int_wrap w8 number))
cast_long Char number = Gives (Int (int_rem_euclid number (pos 65536)))
cast_long Short number = Gives (Int (int_wrap w16 number))
cast_long types.Int number = Gives (Int (int_wrap w32 number))
cast_long types.Long number = Gives (Long number)
cast_long Float number = Halts More
cast_long Double number = Halts More
cast_long (Class name) number = Halts Stuck
cast_long (Array element) number = Halts Stuck

-- a reference that is cast: one whose class doesn't go to the type traps (5.5.3)
abbrev pub checked : List Header → JType → RefValue → Reply Value
checked headers type reference = if is_subtype headers reference.class type then Gives (Ref reference) else trap (codes "java/lang/ClassCastException")

-- likewise, to any type; a number type is never one
abbrev pub cast_reference : List Header → JType → RefValue → Reply Value
cast_reference headers Boolean reference = Halts Stuck
cast_reference headers Byte reference = Halts Stuck
cast_reference headers Char reference = Halts Stuck
cast_reference headers Short reference = Halts Stuck
cast_reference headers types.Int reference = Halts Stuck
cast_reference headers types.Long reference = Halts Stuck
cast_reference headers Float reference = Halts Stuck
cast_reference headers Double reference = Halts Stuck
cast_reference headers (Class name) reference = checked headers (Class name) reference
cast_reference headers (Array element) reference = checked headers (Array element) reference

-- a value that is cast to a type
abbrev pub cast : List Header → JType → Value → Reply Value
cast headers type (Int number) = converted_int type number
cast headers type (Long number) = cast_long type number
cast headers type Null = converted_reference type Null
cast headers type (Ref reference) = cast_reference headers type reference
