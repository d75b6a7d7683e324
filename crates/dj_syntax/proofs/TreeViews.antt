-- What each kind of tree of the code with trees in it is seen as.
use Rattle.std.proofs.Common.{◌≡◌, ℕ, ℤ, Bool, List, Option, rules}
use Rattle.std.specs.Prelude.{option_map}
use Rattle.dj_names.specs.Types.{view_type}
use Rattle.dj_names.specs.declared.types.JType.{JType as code_type}
use Rattle.dj_syntax.specs.declared.operator.Op.{Op}
use Rattle.dj_syntax.specs.declared.variable.Var.{Var}
use Rattle.dj_syntax.specs.declared.expression.Exp.{Exp as code_exp, the_lemmas as exp_lemmas}
use Rattle.dj_syntax.specs.declared.expression.Exp.TheVariants as exp
use Rattle.dj_syntax.specs.declared.statement.Stm.{Stm as code_stm, the_lemmas as stm_lemmas}
use Rattle.dj_syntax.specs.declared.statement.Stm.TheVariants as stm
use Rattle.dj_syntax.specs.declared.statement.Group.{Group as code_group}
use Rattle.dj_syntax.specs.declared.statement.Catch.{Catch as code_catch}
use Rattle.dj_syntax.specs.Trees.{Element, Call, StaticCall, SuperCall, New, NewArray, Cast, InstanceOf, Negative, Not, Binary, Choice, Assign, Labelled, If, While, Switch, Try, Synchronized, Do, For, Finally, view_exp, view_exps, view_stm, view_stms, view_groups, view_catches}

-- ---- expressions

pub view_element : (array index : code_exp) → view_exp (exp.Element array index) ≡ Element (view_exp array) (view_exp index)
view_element array index = search (rules, exp_lemmas)

pub view_call : (object : code_exp) (name : List ℕ) (list : List code_exp) → view_exp (exp.Call object name list) ≡ Call (view_exp object) name (view_exps list)
view_call object name list = search (rules, exp_lemmas)

pub view_static_call : (class name : List ℕ) (list : List code_exp) → view_exp (exp.StaticCall class name list) ≡ StaticCall class name (view_exps list)
view_static_call class name list = search (rules, exp_lemmas)

pub view_super_call : (above : Option (List ℕ)) (name : List ℕ) (list : List code_exp) → view_exp (exp.SuperCall above name list) ≡ SuperCall above name (view_exps list)
view_super_call above name list = search (rules, exp_lemmas)

pub view_new : (class : List ℕ) (list : List code_exp) → view_exp (exp.New class list) ≡ New class (view_exps list)
view_new class list = search (rules, exp_lemmas)

pub view_new_array : (kind : code_type) (sizes : List code_exp) (more : ℕ) → view_exp (exp.NewArray kind sizes more) ≡ NewArray (view_type kind) (view_exps sizes) more
view_new_array kind sizes more = search (rules, exp_lemmas)

pub view_cast : (kind : code_type) (value : code_exp) → view_exp (exp.Cast kind value) ≡ Cast (view_type kind) (view_exp value)
view_cast kind value = search (rules, exp_lemmas)

pub view_instance_of : (value : code_exp) (kind : code_type) → view_exp (exp.InstanceOf value kind) ≡ InstanceOf (view_exp value) (view_type kind)
view_instance_of value kind = search (rules, exp_lemmas)

pub view_negative : (value : code_exp) → view_exp (exp.Negative value) ≡ Negative (view_exp value)
view_negative value = search (rules, exp_lemmas)

pub view_not : (value : code_exp) → view_exp (exp.Not value) ≡ Not (view_exp value)
view_not value = search (rules, exp_lemmas)

pub view_binary : (op : Op) (left right : code_exp) → view_exp (exp.Binary op left right) ≡ Binary op (view_exp left) (view_exp right)
view_binary op left right = search (rules, exp_lemmas)

pub view_choice : (test first second : code_exp) → view_exp (exp.Choice test first second) ≡ Choice (view_exp test) (view_exp first) (view_exp second)
view_choice test first second = search (rules, exp_lemmas)

pub view_assign : (variable : Var) (value : code_exp) → view_exp (exp.Assign variable value) ≡ Assign variable (view_exp value)
view_assign variable value = search (rules, exp_lemmas)

-- ---- statements

pub view_labelled : (label : ℕ) (one : code_stm) → view_stm (stm.Labelled label one) ≡ Labelled label (view_stm one)
view_labelled label one = search (rules, stm_lemmas)

pub view_if : (test : code_exp) (first second : List code_stm) → view_stm (stm.If test first second) ≡ If (view_exp test) (view_stms first) (view_stms second)
view_if test first second = search (rules, stm_lemmas)

pub view_while : (test : code_exp) (body : List code_stm) → view_stm (stm.While test body) ≡ While (view_exp test) (view_stms body)
view_while test body = search (rules, stm_lemmas)

pub view_switch : (value : code_exp) (groups : List code_group) → view_stm (stm.Switch value groups) ≡ Switch (view_exp value) (view_groups groups)
view_switch value groups = search (rules, stm_lemmas)

pub view_try : (body : List code_stm) (catches : List code_catch) → view_stm (stm.Try body catches) ≡ Try (view_stms body) (view_catches catches)
view_try body catches = search (rules, stm_lemmas)

pub view_synchronized : (monitor : code_exp) (body : List code_stm) → view_stm (stm.Synchronized monitor body) ≡ Synchronized (view_exp monitor) (view_stms body)
view_synchronized monitor body = search (rules, stm_lemmas)

pub view_do : (body : List code_stm) (test : code_exp) → view_stm (stm.Do body test) ≡ Do (view_stms body) (view_exp test)
view_do body test = search (rules, stm_lemmas)

pub view_for : (test : code_exp) (variable : Var) (step : code_exp) (body : List code_stm) → view_stm (stm.For test variable step body) ≡ For (view_exp test) variable (view_exp step) (view_stms body)
view_for test variable step body = search (rules, stm_lemmas)

pub view_finally : (body last : List code_stm) → view_stm (stm.Finally body last) ≡ Finally (view_stms body) (view_stms last)
view_finally body last = search (rules, stm_lemmas)
