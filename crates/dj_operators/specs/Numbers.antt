-- How the program's types of numbers are seen as those of the definition.
use Rattle.dj_names.specs.Types.{JType, Int, Long, Float, Double}
use Rattle.dj_operators.specs.declared.promotions.Number as code_number
use Rattle.dj_operators.specs.declared.promotions.Number.TheVariants as numbers

-- a type after numeric promotion
abbrev pub view_number : code_number.Number → JType
view_number numbers.Int = Int
view_number numbers.Long = Long
view_number numbers.Float = Float
view_number numbers.Double = Double
