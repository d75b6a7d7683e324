-- Numbers that are taken from the stack, and what instructions build of them.
use Rattle.std.specs.Prelude.{ℕ, Bool, true, false, is_some, if◌then◌else◌, List, [], ◌∷◌, Option, Some, None}
use Rattle.dj_names.specs.Types as types
use Rattle.dj_names.specs.Types.{JType, Boolean, Byte, Char, Short, Float, Double, Class, Array, StaticType, Of}
use Rattle.dj_syntax.specs.declared.operator.Op.{Op}
use Rattle.dj_syntax.specs.Trees.{Exp, Binary}
use Rattle.dj_instructions.specs.declared.kinds.Calc as calcs
use Rattle.dj_instructions.specs.declared.kinds.Calc.TheVariants as calc
use Rattle.dj_rebuilding.specs.Pending.{Pending, Whole, Built, Typed, and_then, grown}
use Rattle.dj_rebuilt.specs.Nodes.{is_whole, is_wide, as_int, comparing}
use Rattle.dj_rebuilt.specs.Known.{atom_of}
use Rattle.dj_pending.specs.Entries.{operand_of}

-- an operand is an int, or a long
abbrev pub is_number : Bool → StaticType → Bool
is_number false type = is_whole type
is_number true type = is_wide type

-- as it stands where one is wanted
abbrev pub as_number : Bool → StaticType → Exp → Exp
as_number false type exp = as_int type exp
as_number true type exp = exp

-- the type of ints, or of longs
abbrev pub number_type : Bool → JType
number_type false = types.Int
number_type true = types.Long

-- the expression of a number
abbrev pub number_of : Bool → Typed → Option Exp
number_of wide operand = if is_number wide operand.0 then Some (as_number wide operand.0 operand.1) else None

-- what was taken, and what lies below
abbrev pub found_above : List Pending → Option Exp → Option (Exp × List Pending)
found_above below None = None
found_above below (Some exp) = Some (exp, below)

-- a number from the top of a stack
abbrev pub number_taken : Bool → List Pending → Option (Exp × List Pending)
number_taken wide [] = None
number_taken wide (top ∷ below) = found_above below (and_then (operand_of top) (number_of wide))

-- an expression, where it is an atom
abbrev pub atom_only : Exp → Option Exp
atom_only exp = if is_some (atom_of exp) then Some exp else None

-- a long from the top of a stack that is an atom
abbrev pub atom_taken : List Pending → Option (Exp × List Pending)
atom_taken stack = and_then (number_taken true stack) (λ found. found_above found.1 (atom_only found.0))

-- an expression of a number, in its place
abbrev pub one_built : Bool → JType → (Exp → Exp) → ℕ → List Pending → Option Built
one_built wide type make n stack = and_then (number_taken wide stack) (λ found. grown n (Whole (Of type) (make found.0) ∷ found.1))

-- an operator between two numbers, in their place
abbrev pub two_built : Op → Bool → Bool → ℕ → List Pending → Option Built
two_built operator first second n stack =
    and_then (number_taken second stack) (λ right. and_then (number_taken first right.1) (λ left.
    grown n (Whole (Of (number_type first)) (Binary operator left.0 right.0) ∷ left.1)))

-- a comparison of two longs that are atoms
abbrev pub compared_built : ℕ → List Pending → Option Built
compared_built n stack =
    and_then (atom_taken stack) (λ right. and_then (atom_taken right.1) (λ left. grown n (Whole (Of types.Int) (comparing left.0 right.0) ∷ left.1)))

-- the types to which ints are converted
abbrev pub converts_int : JType → Bool
converts_int Boolean = false
converts_int Byte = true
converts_int Char = true
converts_int Short = true
converts_int types.Int = false
converts_int types.Long = true
converts_int Float = false
converts_int Double = false
converts_int (Class name) = false
converts_int (Array element) = false

-- how many operands a calculation takes
abbrev pub calc_count : calcs.Calc → ℕ
calc_count calc.Add = 2
calc_count calc.Sub = 2
calc_count calc.Mul = 2
calc_count calc.Div = 2
calc_count calc.Rem = 2
calc_count calc.Neg = 1
calc_count calc.Shl = 2
calc_count calc.Shr = 2
calc_count calc.Ushr = 2
calc_count calc.And = 2
calc_count calc.Or = 2
calc_count calc.Xor = 2
