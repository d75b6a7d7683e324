-- Descriptors as units from which their types can be read again, whatever stands in the names of classes.
use Rattle.std.specs.Prelude.{ℕ, List, [], ◌∷◌, ◌++◌, Option, Some, None}
use Rattle.std.specs.List.{flat_map}
use Rattle.dj_names.specs.Types.{JType, Boolean, Byte, Char, Short, Int, Long, Float, Double, Class, Array, Descriptor, Field, Method, parameters_of}

-- the letter of a type (JVMS table 4.3-A)
abbrev pub letter_of : JType → ℕ
letter_of Boolean = 90
letter_of Byte = 66
letter_of Char = 67
letter_of Short = 83
letter_of Int = 73
letter_of Long = 74
letter_of Float = 70
letter_of Double = 68
letter_of (Class name) = 76
letter_of (Array element) = 91

-- each unit of a class's name behind an `L`, and then a semicolon
abbrev pub spelled_units : List ℕ → List ℕ
spelled_units [] = 59 ∷ []
spelled_units (unit ∷ units) = 76 ∷ unit ∷ spelled_units units

-- what stands behind the letter of a type
abbrev pub spelled_rest : JType → List ℕ
spelled_rest Boolean = []
spelled_rest Byte = []
spelled_rest Char = []
spelled_rest Short = []
spelled_rest Int = []
spelled_rest Long = []
spelled_rest Float = []
spelled_rest Double = []
spelled_rest (Class name) = spelled_units name
spelled_rest (Array element) = letter_of element ∷ spelled_rest element

-- a type, spelled
abbrev pub spelled_type : JType → List ℕ
spelled_type type = letter_of type ∷ spelled_rest type

-- a result, spelled, `V` for none (JVMS 4.3.3)
abbrev pub spelled_result : Option JType → List ℕ
spelled_result None = 86 ∷ []
spelled_result (Some type) = spelled_type type

-- the parameters of a method in parentheses, and its result, spelled
abbrev pub spelled_method : List JType → Option JType → List ℕ
spelled_method parameters result = 40 ∷ (flat_map spelled_type parameters ++ 41 ∷ spelled_result result)

-- the parameters of a descriptor, spelled
abbrev pub spelled_parameters : Descriptor → List ℕ
spelled_parameters descriptor = flat_map spelled_type (parameters_of descriptor)

-- a descriptor, spelled
abbrev pub spelled_descriptor : Descriptor → List ℕ
spelled_descriptor (Field type) = spelled_type type
spelled_descriptor (Method parameters result) = spelled_method parameters result
