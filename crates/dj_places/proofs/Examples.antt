-- Constant conditions at worked examples (JLS 15.28).
use Rattle.std.proofs.Common.{◌≡◌, ℕ, true, false, Some, None, refl}
use Rattle.std.specs.Prelude.{pos, negsuc, codes}
use Rattle.dj_names.specs.Types as types
use Rattle.dj_names.specs.Types.{Class}
use Rattle.dj_syntax.specs.declared.variable.Var.{Var}
use Rattle.dj_syntax.specs.declared.variable.VarKind.TheVariants.{Local}
use Rattle.dj_syntax.specs.declared.operator.Op.TheVariants as op
use Rattle.dj_syntax.specs.Trees.{Exp, Text, Truth, Null, Variable, Cast, InstanceOf, Negative, Not, Binary, Choice, Assign}
use Rattle.dj_syntax.specs.Trees as trees
use Rattle.dj_places.specs.Constants.{Surroundings, constant_truth}

abbrev number : ℕ → Exp
number n = trees.Int (pos n)

abbrev v0 : Var
v0 = record { kind = Local; number = 0 }

-- 1 < 2
comparison : (around : Surroundings) → constant_truth around (Binary op.Lt (number 1) (number 2)) ≡ Some true
comparison around = refl

-- 7 / 2 == 3, and 1 / 0 == 0
quotient : (around : Surroundings) → constant_truth around (Binary op.Eq (Binary op.Div (number 7) (number 2)) (number 3)) ≡ Some true
quotient around = refl

no_quotient : (around : Surroundings) → constant_truth around (Binary op.Eq (Binary op.Div (number 1) (number 0)) (number 0)) ≡ None
no_quotient around = refl

-- (long) 3 == 3
wider : (around : Surroundings) → constant_truth around (Binary op.Eq (Cast types.Long (number 3)) (number 3)) ≡ Some true
wider around = refl

-- -(1) == -1
negative : (around : Surroundings) → constant_truth around (Binary op.Eq (Negative (number 1)) (trees.Int (negsuc 0))) ≡ Some true
negative around = refl

-- "a" == "a", and "a" == "b"
same_text : (around : Surroundings) → constant_truth around (Binary op.Eq (Text (codes "a")) (Text (codes "a"))) ≡ Some true
same_text around = refl

other_text : (around : Surroundings) → constant_truth around (Binary op.Eq (Text (codes "a")) (Text (codes "b"))) ≡ Some false
other_text around = refl

-- true && 1 == 2, and false || !false
both_truths : (around : Surroundings) → constant_truth around (Binary op.AndAlso (Truth true) (Binary op.Eq (number 1) (number 2))) ≡ Some false
both_truths around = refl

one_truth : (around : Surroundings) → constant_truth around (Binary op.OrElse (Truth false) (Not (Truth false))) ≡ Some true
one_truth around = refl

-- false && v0: both operands have to be constants
not_both : (around : Surroundings) → constant_truth around (Binary op.AndAlso (Truth false) (Variable v0)) ≡ None
not_both around = refl

-- true ? false : true
choice : (around : Surroundings) → constant_truth around (Choice (Truth true) (Truth false) (Truth true)) ≡ Some false
choice around = refl

-- v0 = true, null == null, "a" instanceof java.lang.String, (java.lang.Object) "a" == "a"
assignment : (around : Surroundings) → constant_truth around (Assign v0 (Truth true)) ≡ None
assignment around = refl

no_literal : (around : Surroundings) → constant_truth around (Binary op.Eq Null Null) ≡ None
no_literal around = refl

no_test : (around : Surroundings) → constant_truth around (InstanceOf (Text (codes "a")) (Class (codes "java/lang/String"))) ≡ None
no_test around = refl

no_cast : (around : Surroundings) → constant_truth around (Binary op.Eq (Cast (Class (codes "java/lang/Object")) (Text (codes "a"))) (Text (codes "a"))) ≡ None
no_cast around = refl

-- (float) 1 == 1: floats aren't followed
no_float : (around : Surroundings) → constant_truth around (Binary op.Eq (Cast types.Float (number 1)) (number 1)) ≡ None
no_float around = refl
