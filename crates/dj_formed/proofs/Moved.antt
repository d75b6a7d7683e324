-- Rules of expressions hold wherever they are told to stand: a place is only a name.
use Rattle.std.proofs.Common.{ℕ, ◌+◌, Option, Some, None}
use Rattle.dj_syntax.specs.Trees.{Exp, Text, Truth, Null, This, Variable, ClassOf, Field, Static, Element, Call, StaticCall, SuperCall, New, NewArray, Cast, InstanceOf, Negative, Not, Binary, Choice, Assign, Exps, NoExps, AndExp}
use Rattle.dj_syntax.specs.Trees as trees
use Rattle.dj_syntax.specs.Weight.{weight_of_exp}
use Rattle.dj_meaning.specs.StaticTypes.{Scope}
use Rattle.dj_places.specs.Rules.{Holds}
use Rattle.dj_typing.specs.Sites.{Site}
use Rattle.dj_typing.specs.Expressions.{exp_types, exps_types, effect_types}
use Rattle.dj_typed.specs.Statements.{option_types}

module _ (site : Site) (scope : Scope) where
  mutual
    pub moved : (p q : ℕ) (exp : Exp) → Holds (exp_types site scope p exp) → Holds (exp_types site scope q exp)
    moved p q (trees.Int number) t = tt
    moved p q (trees.Long number) t = tt
    moved p q (Text units) t = t
    moved p q (Truth known) t = tt
    moved p q Null t = tt
    moved p q This t = t
    moved p q (Variable variable) t = t
    moved p q (ClassOf kind) t = t
    moved p q (Field object name) t = (t.0, (t.1.0, (t.1.1.0, moved (p + 1) (q + 1) object t.1.1.1)))
    moved p q (Static class name) t = t
    moved p q (Element array index) t =
        (t.0, (t.1.0, (t.1.1.0, (moved (p + 1) (q + 1) array t.1.1.1.0, moved (p + 1 + weight_of_exp array) (q + 1 + weight_of_exp array) index t.1.1.1.1))))
    moved p q (Call object name arguments) t =
        (t.0, (t.1.0, (moved (p + 1) (q + 1) object t.1.1.0, all_moved (p + 1 + weight_of_exp object) (q + 1 + weight_of_exp object) arguments t.1.1.1)))
    moved p q (StaticCall class name arguments) t = (t.0, (t.1.0, all_moved (p + 1) (q + 1) arguments t.1.1))
    moved p q (SuperCall above name arguments) t = (t.0, (t.1.0, all_moved (p + 1) (q + 1) arguments t.1.1))
    moved p q (New class arguments) t = (t.0, (t.1.0, all_moved (p + 1) (q + 1) arguments t.1.1))
    moved p q (NewArray kind sizes more) t = (t.0, (t.1.0, all_moved (p + 1) (q + 1) sizes t.1.1))
    moved p q (Cast kind operand) t = (t.0, (t.1.0, moved (p + 1) (q + 1) operand t.1.1))
    moved p q (InstanceOf operand kind) t = (t.0, (t.1.0, moved (p + 1) (q + 1) operand t.1.1))
    moved p q (Negative operand) t = (t.0, moved (p + 1) (q + 1) operand t.1)
    moved p q (Not operand) t = (t.0, moved (p + 1) (q + 1) operand t.1)
    moved p q (Binary operator left right) t = (t.0, (moved (p + 1) (q + 1) left t.1.0, moved (p + 1 + weight_of_exp left) (q + 1 + weight_of_exp left) right t.1.1))
    moved p q (Choice test first second) t = (
      t.0,
      (
        t.1.0,
        (
          moved (p + 1) (q + 1) test t.1.1.0,
          (
            moved (p + 1 + weight_of_exp test) (q + 1 + weight_of_exp test) first t.1.1.1.0,
            moved (p + 1 + weight_of_exp test + weight_of_exp first) (q + 1 + weight_of_exp test + weight_of_exp first) second t.1.1.1.1,
          ),
        ),
      ),
    )
    moved p q (Assign variable new) t = (t.0, (t.1.0, (t.1.1.0, moved (p + 1) (q + 1) new t.1.1.1)))

    pub all_moved : (p q : ℕ) (exps : Exps) → Holds (exps_types site scope p exps) → Holds (exps_types site scope q exps)
    all_moved p q NoExps t = tt
    all_moved p q (AndExp first rest) t = (moved p q first t.0, all_moved (p + weight_of_exp first) (q + weight_of_exp first) rest t.1)

  pub effect_moved : (p q : ℕ) (exp : Exp) → Holds (effect_types site scope p exp) → Holds (effect_types site scope q exp)
  effect_moved p q (Call object name arguments) t =
      (t.0, (moved (p + 1) (q + 1) object t.1.0, all_moved (p + 1 + weight_of_exp object) (q + 1 + weight_of_exp object) arguments t.1.1))
  effect_moved p q (StaticCall class name arguments) t = (t.0, all_moved (p + 1) (q + 1) arguments t.1)
  effect_moved p q (SuperCall above name arguments) t = (t.0, all_moved (p + 1) (q + 1) arguments t.1)
  effect_moved p q (trees.Int number) t = moved p q (trees.Int number) t
  effect_moved p q (trees.Long number) t = moved p q (trees.Long number) t
  effect_moved p q (Text units) t = moved p q (Text units) t
  effect_moved p q (Truth known) t = moved p q (Truth known) t
  effect_moved p q Null t = moved p q Null t
  effect_moved p q This t = moved p q This t
  effect_moved p q (Variable variable) t = moved p q (Variable variable) t
  effect_moved p q (ClassOf kind) t = moved p q (ClassOf kind) t
  effect_moved p q (Field object name) t = moved p q (Field object name) t
  effect_moved p q (Static class name) t = moved p q (Static class name) t
  effect_moved p q (Element array index) t = moved p q (Element array index) t
  effect_moved p q (New class arguments) t = moved p q (New class arguments) t
  effect_moved p q (NewArray kind sizes more) t = moved p q (NewArray kind sizes more) t
  effect_moved p q (Cast kind operand) t = moved p q (Cast kind operand) t
  effect_moved p q (InstanceOf operand kind) t = moved p q (InstanceOf operand kind) t
  effect_moved p q (Negative operand) t = moved p q (Negative operand) t
  effect_moved p q (Not operand) t = moved p q (Not operand) t
  effect_moved p q (Binary operator left right) t = moved p q (Binary operator left right) t
  effect_moved p q (Choice test first second) t = moved p q (Choice test first second) t
  effect_moved p q (Assign variable new) t = moved p q (Assign variable new) t

  pub option_moved : (p q : ℕ) (exp : Option Exp) → Holds (option_types site scope p exp) → Holds (option_types site scope q exp)
  option_moved p q None t = tt
  option_moved p q (Some exp) t = moved p q exp t
