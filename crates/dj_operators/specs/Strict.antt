-- What the operators do that evaluate both their operands, and which of them work on two numbers of one type, or shift.
use Rattle.std.specs.Prelude.{⊤}
use Rattle.dj_syntax.specs.declared.operator.Op.{Op}
use Rattle.dj_syntax.specs.declared.operator.Op.TheVariants as op
use Rattle.dj_values.specs.Values.{Value}
use Rattle.dj_values.specs.Outcomes.{Stuck, Reply, Halts}
use Rattle.dj_meaning.specs.Operators.{Operator, Strict, After, operator_of}

-- what an operator makes of its operands' values; one that looks at the left one first makes nothing of both
abbrev pub operation_of : Op → Value → Value → Reply Value
operation_of operator = by_form (operator_of operator)
  where
    by_form : Operator → Value → Value → Reply Value
    by_form (Strict operation) = operation
    by_form (After wanted) = λ left right. Halts Stuck

-- an operator on two numbers of one type: arithmetic, a comparison, or one on bits (JLS 15.17, 15.18, 15.20, 15.22)
abbrev pub IsOfNumbers : Op → Type 0
IsOfNumbers op.Mul = ⊤
IsOfNumbers op.Div = ⊤
IsOfNumbers op.Rem = ⊤
IsOfNumbers op.Add = ⊤
IsOfNumbers op.Sub = ⊤
IsOfNumbers op.Shl = ⊥
IsOfNumbers op.Shr = ⊥
IsOfNumbers op.Ushr = ⊥
IsOfNumbers op.Lt = ⊤
IsOfNumbers op.Le = ⊤
IsOfNumbers op.Gt = ⊤
IsOfNumbers op.Ge = ⊤
IsOfNumbers op.Eq = ⊥
IsOfNumbers op.Ne = ⊥
IsOfNumbers op.And = ⊤
IsOfNumbers op.Xor = ⊤
IsOfNumbers op.Or = ⊤
IsOfNumbers op.AndAlso = ⊥
IsOfNumbers op.OrElse = ⊥

-- a shift (15.19)
abbrev pub IsShift : Op → Type 0
IsShift op.Mul = ⊥
IsShift op.Div = ⊥
IsShift op.Rem = ⊥
IsShift op.Add = ⊥
IsShift op.Sub = ⊥
IsShift op.Shl = ⊤
IsShift op.Shr = ⊤
IsShift op.Ushr = ⊤
IsShift op.Lt = ⊥
IsShift op.Le = ⊥
IsShift op.Gt = ⊥
IsShift op.Ge = ⊥
IsShift op.Eq = ⊥
IsShift op.Ne = ⊥
IsShift op.And = ⊥
IsShift op.Xor = ⊥
IsShift op.Or = ⊥
IsShift op.AndAlso = ⊥
IsShift op.OrElse = ⊥
