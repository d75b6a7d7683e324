-- What is made of values, seen plainly.
use Rattle.std.proofs.Common.{◌≡◌, ℕ, Bool, Option, List, map, rules}
use Rattle.dj_names.specs.declared.types.JType as code_type
use Rattle.dj_names.specs.Types.{view_type}
use Rattle.dj_syntax.specs.declared.expression.Exp as code_exp
use Rattle.dj_syntax.specs.declared.expression.Exp.{the_lemmas as exp_lemmas}
use Rattle.dj_syntax.specs.declared.expression.Exp.TheVariants as exp
use Rattle.dj_syntax.specs.Trees.{Element, InstanceOf, Field, Null, Text, This, Truth, view_exp, exps_of}
use Rattle.dj_syntax.proofs.TreeViews.{view_element, view_instance_of, view_call, view_static_call, view_super_call, view_new}
use Rattle.dj_grammar.specs.Frames.{called}
use Rattle.dj_expressions.specs.declared.frames.Callee as code_callee
use Rattle.dj_expressions.specs.declared.frames.Callee.TheVariants as callees
use Rattle.dj_expressions.specs.Views.{view_callee}

-- ---- calls

module _ (callee : code_callee.Callee) (arguments : List code_exp.Exp) where
  pub called-object : (object : code_exp.Exp) (name : List ℕ) → callee ≡ callees.OfObject object name → view_exp (exp.Call object name arguments) ≡ called (view_callee callee) (exps_of (map view_exp arguments))
  called-object object name is = rw is (view_call object name arguments)

  pub called-class : (class name : List ℕ) → callee ≡ callees.OfClass class name → view_exp (exp.StaticCall class name arguments) ≡ called (view_callee callee) (exps_of (map view_exp arguments))
  called-class class name is = rw is (view_static_call class name arguments)

  pub called-above : (above : Option (List ℕ)) (name : List ℕ) → callee ≡ callees.Above above name → view_exp (exp.SuperCall above name arguments) ≡ called (view_callee callee) (exps_of (map view_exp arguments))
  called-above above name is = rw is (view_super_call above name arguments)

  pub called-creation : (class : List ℕ) → callee ≡ callees.Creation class → view_exp (exp.New class arguments) ≡ called (view_callee callee) (exps_of (map view_exp arguments))
  called-creation class is = rw is (view_new class arguments)

-- ---- other values

view_field : (object : code_exp.Exp) (name : List ℕ) → view_exp (exp.Field object name) ≡ Field (view_exp object) name
view_field object name = search (rules, exp_lemmas)

view_text : (units : List ℕ) → view_exp (exp.Text units) ≡ Text units
view_text units = search (rules, exp_lemmas)

-- an element of an array
pub made-element : (array kept index boxed : code_exp.Exp) → kept ≡ array → boxed ≡ index → view_exp (exp.Element kept boxed) ≡ Element (view_exp array) (view_exp index)
made-element array kept index boxed same also = rw (same, also) (view_element array index)

-- a type test
pub made-test : (operand boxed : code_exp.Exp) (kind : code_type.JType) → boxed ≡ operand → view_exp (exp.InstanceOf boxed kind) ≡ InstanceOf (view_exp operand) (view_type kind)
made-test operand boxed kind same = rw same (view_instance_of operand kind)

-- a field
pub made-field : (object boxed : code_exp.Exp) (name word : List ℕ) → boxed ≡ object → name ≡ word → view_exp (exp.Field boxed name) ≡ Field (view_exp object) word
made-field object boxed name word same also = rw (same, also) (view_field object word)

-- a text
pub made-text : (units read : List ℕ) → units ≡ read → view_exp (exp.Text units) ≡ Text read
made-text units read same = rw same (view_text read)

-- literals of one word
pub view_truth : (value : Bool) → view_exp (exp.Bool value) ≡ Truth value
view_truth value = search (rules, exp_lemmas)

pub view_null : view_exp exp.Null ≡ Null
view_null = search (rules, exp_lemmas)

pub view_this : view_exp exp.This ≡ This
view_this = search (rules, exp_lemmas)
