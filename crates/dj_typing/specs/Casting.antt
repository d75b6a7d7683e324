-- Which types may be cast to which (JLS 5.5): number types to number types, and references where the two types don't exclude each other (5.5.1).
use Rattle.std.specs.Prelude.{Bool, false, not, ◌&&◌, ◌||◌, ◌==◌, bit_and, is_some, List}
use Rattle.std.specs.List.{list_any}
use Rattle.dj_names.specs.declared.header.Header.{Header}
use Rattle.dj_names.specs.Headers.{Name}
use Rattle.dj_names.specs.Types as types
use Rattle.dj_names.specs.Types.{JType, Boolean, Byte, Char, Short, Int, Long, Float, Double, Class, Array, StaticType, Of}
use Rattle.dj_names.specs.Assignable.{above_arrays}
use Rattle.dj_values.specs.Deciding.{is_name, is_type, is_reference, is_interface, goes_up}
use Rattle.dj_meaning.specs.Promotions.{promoted}

-- a number type (4.2)
abbrev pub is_number : JType → Bool
is_number type = is_some (promoted type)

-- a class has a header with ACC_FINAL, 0x0010 (JVMS table 4.1-A)
abbrev pub is_final_class : List Header → Name → Bool
is_final_class headers class = list_any (λ (header : Header). is_name header.name class && not (bit_and header.flags 0x0010 == 0)) headers

-- an object may be of both classes: one goes to the other, or one is an interface and the other can have it below
abbrev pub may_be_both : List Header → Name → Name → Bool
may_be_both headers first second =
    goes_up headers first second || goes_up headers second first
    || (is_interface headers first && not (is_final_class headers second)) || (is_interface headers second && not (is_final_class headers first))

-- a class that arrays go to
abbrev pub is_above_arrays : Name → Bool
is_above_arrays class = list_any (λ above. is_name above class) above_arrays

-- a reference may be of both types
abbrev pub may_be : List Header → JType → JType → Bool
may_be headers Boolean to = false
may_be headers Byte to = false
may_be headers Char to = false
may_be headers Short to = false
may_be headers Int to = false
may_be headers Long to = false
may_be headers Float to = false
may_be headers Double to = false
may_be headers (Class from) Boolean = false
may_be headers (Class from) Byte = false
may_be headers (Class from) Char = false
may_be headers (Class from) Short = false
may_be headers (Class from) Int = false
may_be headers (Class from) Long = false
may_be headers (Class from) Float = false
may_be headers (Class from) Double = false
may_be headers (Class from) (Class to) = may_be_both headers from to
may_be headers (Class from) (Array to) = is_above_arrays from
may_be headers (Array from) Boolean = false
may_be headers (Array from) Byte = false
may_be headers (Array from) Char = false
may_be headers (Array from) Short = false
may_be headers (Array from) Int = false
may_be headers (Array from) Long = false
may_be headers (Array from) Float = false
may_be headers (Array from) Double = false
may_be headers (Array from) (Class to) = is_above_arrays to
may_be headers (Array from) (Array to) = is_type from to || may_be headers from to

-- the same of the type of an expression; null is of each
abbrev pub may_be_of : List Header → StaticType → JType → Bool
may_be_of headers types.Null to = is_reference to
may_be_of headers (Of from) to = may_be headers from to

-- an expression of this type may be cast to that type
abbrev pub may_cast : List Header → StaticType → JType → Bool
may_cast headers types.Null to = is_reference to
may_cast headers (Of from) to = (is_number from && is_number to) || may_be headers from to
