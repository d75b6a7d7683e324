-- What types are tested for, by name.
use Rattle.std.specs.Prelude.{Bool}
use Rattle.dj_names.specs.Types.{JType}
use Rattle.dj_values.specs.Deciding.{is_array, is_reference}
use Rattle.dj_typing.specs.Casting.{is_number}
use Rattle.dj_typing.specs.Operands.{is_boolean, is_int, is_integral}
use Rattle.dj_checked.specs.declared.operands.Test.{Test}
use Rattle.dj_checked.specs.declared.operands.Test.TheVariants as tests

-- the test of a name
abbrev pub test_of : Test → JType → Bool
test_of tests.Number = is_number
test_of tests.Integral = is_integral
test_of tests.Int = is_int
test_of tests.Boolean = is_boolean
test_of tests.Array = is_array
test_of tests.Reference = is_reference
