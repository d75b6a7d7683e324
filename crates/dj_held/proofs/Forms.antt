-- The two forms of operators: those that evaluate both operands, and `&&` and `||`.
use Rattle.std.proofs.Common.{◌≡◌, Bool, true, false, Some, None, refl}
use Rattle.dj_syntax.specs.declared.operator.Op.{Op}
use Rattle.dj_syntax.specs.declared.operator.Op.TheVariants as op
use Rattle.dj_values.specs.Values.{Value}
use Rattle.dj_values.specs.Outcomes.{Reply}
use Rattle.dj_meaning.specs.Operators.{Strict, After, operator_of}
use Rattle.dj_meaning.specs.Promotions.{OfTruths, typing_of}
use Rattle.dj_typing.specs.Operands.{Truths, operands_of}
use Rattle.dj_conditions.specs.Conditions.{wanted_before}

-- which form an operator has
pub data HasForm (operator : Op) : Type 0 where
  strict : (operation : Value → Value → Reply Value) → operator_of operator ≡ Strict operation → wanted_before operator ≡ None → HasForm operator
  after : (wanted : Bool) → operator_of operator ≡ After wanted → wanted_before operator ≡ Some wanted → typing_of operator ≡ OfTruths → operands_of operator ≡ Truths → HasForm operator

pub form_of : (operator : Op) → HasForm operator
form_of op.Mul = strict _ refl refl
form_of op.Div = strict _ refl refl
form_of op.Rem = strict _ refl refl
form_of op.Add = strict _ refl refl
form_of op.Sub = strict _ refl refl
form_of op.Shl = strict _ refl refl
form_of op.Shr = strict _ refl refl
form_of op.Ushr = strict _ refl refl
form_of op.Lt = strict _ refl refl
form_of op.Le = strict _ refl refl
form_of op.Gt = strict _ refl refl
form_of op.Ge = strict _ refl refl
form_of op.Eq = strict _ refl refl
form_of op.Ne = strict _ refl refl
form_of op.And = strict _ refl refl
form_of op.Xor = strict _ refl refl
form_of op.Or = strict _ refl refl
form_of op.AndAlso = after true refl refl refl refl
form_of op.OrElse = after false refl refl refl refl
