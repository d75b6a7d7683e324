-- Which values are read in a way of their own.
use Rattle.std.proofs.Common.{◌≡◌, ℕ, ℤ, true, List, Some, None, refl, rules, arith}
use Rattle.dj_syntax.specs.declared.operator.Op.{Op}
use Rattle.dj_syntax.specs.declared.operator.Op.TheVariants as op
use Rattle.dj_syntax.specs.declared.variable.Var.{Var}
use Rattle.dj_syntax.specs.declared.expression.Exp as code_exp
use Rattle.dj_syntax.specs.declared.expression.Exp.{the_lemmas}
use Rattle.dj_syntax.specs.declared.expression.Exp.TheVariants as exp
use Rattle.dj_syntax.specs.Trees.{Exp, Text, Truth, Null, This, Variable, ClassOf, Field, Static, Element, Call, StaticCall, SuperCall, New, NewArray, Cast, InstanceOf, Negative, Not, Binary, Choice, Assign, view_exp}
use Rattle.dj_syntax.specs.Trees as trees
use Rattle.dj_grammar.specs.Frames.{OfObject, Own, Pending, signed}
use Rattle.dj_grammar.specs.Brackets.{called_by}
use Rattle.dj_grammar.specs.Readings.{Lost}
use Rattle.dj_grammar.specs.Steps.{minus_or, variable_in_value}

int_back : (value : code_exp.Exp) (number : ℤ) → view_exp value ≡ trees.Int number → value ≡ exp.Int number
int_back value number is = search (rules, the_lemmas)

long_back : (value : code_exp.Exp) (number : ℤ) → view_exp value ≡ trees.Long number → value ≡ exp.Long number
long_back value number is = search (rules, the_lemmas)

this_back : (value : code_exp.Exp) → view_exp value ≡ This → value ≡ exp.This
this_back value is = search (rules, the_lemmas)

variable_back : (value : code_exp.Exp) (variable : Var) → view_exp value ≡ Variable variable → value ≡ exp.Var variable
variable_back value variable is = search (rules, the_lemmas)

-- a minus sign before a value that is no number
pub signed-other : (value : code_exp.Exp) → ((number : ℤ) → value ≡ exp.Int number → ⊥) → ((number : ℤ) → value ≡ exp.Long number → ⊥) → signed (view_exp value) ≡ Negative (view_exp value)
signed-other value no_int no_long = go (view_exp value) refl
  where
    go : (seen : Exp) → view_exp value ≡ seen → signed seen ≡ Negative seen
    go (trees.Int number) is = absurd (no_int number (int_back value number is))
    go (trees.Long number) is = absurd (no_long number (long_back value number is))
    go (Text units) is = refl
    go (Truth truth) is = refl
    go Null is = refl
    go This is = refl
    go (Variable variable) is = refl
    go (ClassOf kind) is = refl
    go (Field object name) is = refl
    go (Static class name) is = refl
    go (Element array index) is = refl
    go (Call object name arguments) is = refl
    go (StaticCall class name arguments) is = refl
    go (SuperCall above name arguments) is = refl
    go (New class arguments) is = refl
    go (NewArray kind sizes more) is = refl
    go (Cast kind operand) is = refl
    go (InstanceOf operand kind) is = refl
    go (Negative operand) is = refl
    go (Not operand) is = refl
    go (Binary operator left right) is = refl
    go (Choice test first second) is = refl
    go (Assign variable assigned) is = refl

-- a value that is no variable
pub variable_in_value-other : (value : code_exp.Exp) → ((variable : Var) → value ≡ exp.Var variable → ⊥) → variable_in_value (view_exp value) ≡ None
variable_in_value-other value no_variable = go (view_exp value) refl
  where
    go : (seen : Exp) → view_exp value ≡ seen → variable_in_value seen ≡ None
    go (trees.Int number) is = refl
    go (trees.Long number) is = refl
    go (Text units) is = refl
    go (Truth truth) is = refl
    go Null is = refl
    go This is = refl
    go (Variable variable) is = absurd (no_variable variable (variable_back value variable is))
    go (ClassOf kind) is = refl
    go (Field object name) is = refl
    go (Static class name) is = refl
    go (Element array index) is = refl
    go (Call object name arguments) is = refl
    go (StaticCall class name arguments) is = refl
    go (SuperCall above name arguments) is = refl
    go (New class arguments) is = refl
    go (NewArray kind sizes more) is = refl
    go (Cast kind operand) is = refl
    go (InstanceOf operand kind) is = refl
    go (Negative operand) is = refl
    go (Not operand) is = refl
    go (Binary operator left right) is = refl
    go (Choice test first second) is = refl
    go (Assign variable assigned) is = refl

field_back : (value : code_exp.Exp) (object : Exp) (name : List ℕ) → view_exp value ≡ Field object name → ((inner : code_exp.Exp) (named : List ℕ) → value ≡ exp.Field inner named → ⊥) → ⊥
field_back value object name is no_field = grind (arith, the_lemmas)

-- a value that calls nothing
pub called_by-other : (value : code_exp.Exp) → (value ≡ exp.This → ⊥) → ((object : code_exp.Exp) (name : List ℕ) → value ≡ exp.Field object name → ⊥) → called_by (view_exp value) ≡ None
called_by-other value no_this no_field = go (view_exp value) refl
  where
    go : (seen : Exp) → view_exp value ≡ seen → called_by seen ≡ None
    go (trees.Int number) is = refl
    go (trees.Long number) is = refl
    go (Text units) is = refl
    go (Truth truth) is = refl
    go Null is = refl
    go This is = absurd (no_this (this_back value is))
    go (Variable variable) is = refl
    go (ClassOf kind) is = refl
    go (Field object name) is = absurd (field_back value object name is no_field)
    go (Static class name) is = refl
    go (Element array index) is = refl
    go (Call object name arguments) is = refl
    go (StaticCall class name arguments) is = refl
    go (SuperCall above name arguments) is = refl
    go (New class arguments) is = refl
    go (NewArray kind sizes more) is = refl
    go (Cast kind operand) is = refl
    go (InstanceOf operand kind) is = refl
    go (Negative operand) is = refl
    go (Not operand) is = refl
    go (Binary operator left right) is = refl
    go (Choice test first second) is = refl
    go (Assign variable assigned) is = refl

-- ---- values of one kind

view_field : (object : code_exp.Exp) (name : List ℕ) → view_exp (exp.Field object name) ≡ Field (view_exp object) name
view_field object name = search (rules, the_lemmas)

view_this : view_exp exp.This ≡ This
view_this = search (rules, the_lemmas)

-- a field calls a method of its object
pub called_by-field : (value object : code_exp.Exp) (name : List ℕ) → value ≡ exp.Field object name → Some (OfObject (view_exp object) name) ≡ called_by (view_exp value)
called_by-field value object name is = rw (is, view_field object name) refl

-- `this` calls a constructor
pub called_by-this : (value : code_exp.Exp) → value ≡ exp.This → Some (Own true) ≡ called_by (view_exp value)
called_by-this value is = rw (is, view_this) refl

-- an operator that is no minus sign stands before no operand
pub minus_or-other : (operator : Op) (pending : List Pending) → (operator ≡ op.Sub → ⊥) → minus_or operator pending ≡ Lost
minus_or-other op.Mul pending no_minus = refl
minus_or-other op.Div pending no_minus = refl
minus_or-other op.Rem pending no_minus = refl
minus_or-other op.Add pending no_minus = refl
minus_or-other op.Sub pending no_minus = absurd (no_minus refl)
minus_or-other op.Shl pending no_minus = refl
minus_or-other op.Shr pending no_minus = refl
minus_or-other op.Ushr pending no_minus = refl
minus_or-other op.Lt pending no_minus = refl
minus_or-other op.Le pending no_minus = refl
minus_or-other op.Gt pending no_minus = refl
minus_or-other op.Ge pending no_minus = refl
minus_or-other op.Eq pending no_minus = refl
minus_or-other op.Ne pending no_minus = refl
minus_or-other op.And pending no_minus = refl
minus_or-other op.Xor pending no_minus = refl
minus_or-other op.Or pending no_minus = refl
minus_or-other op.AndAlso pending no_minus = refl
minus_or-other op.OrElse pending no_minus = refl
