-- Statements that the program emits, which assign no variable, and expressions that it pushes.
use Rattle.std.proofs.Common.{◌≡◌, ℕ, Bool, true, false, List, [], Some, sym, ap, ◌∙◌, rules}
use mathlib.Core.Path.{fun_ext}
use Rattle.std.specs.Prelude.{is_some, ◌||◌}
use Rattle.dj_syntax.specs.declared.variable.Var.{Var}
use Rattle.dj_syntax.specs.declared.expression.Exp.{Exp as code_exp}
use Rattle.dj_syntax.specs.declared.statement.Stm.{the_lemmas as stm_lemmas}
use Rattle.dj_syntax.specs.declared.statement.Stm.TheVariants as stm
use Rattle.dj_syntax.specs.Trees.{Exp, Text, Truth, This, Variable, ClassOf, Field, Static, Element, Call, StaticCall, SuperCall, New, NewArray, Cast, InstanceOf, Negative, Not, Binary, Choice, Assign, Stm, SetField, SetStatic, SetElement, Run, Stms, view_exp, view_stm}
use Rattle.dj_syntax.specs.Trees as trees
use Rattle.dj_rebuilding.specs.Pending.{Pending, emit, sets, set_field, set_static, set_element, call, static_call, super_call, birth}
use Rattle.dj_rebuilt.specs.Rebuilding.{dropped}
use Rattle.dj_pending.specs.Assigned.{is_among}
use Rattle.dj_pending.specs.Heights.{is_quiet}
use Rattle.dj_pending.proofs.Quiet.{quiet}
use Rattle.dj_pending.proofs.StepLemmas.{among-none}
use Rattle.dj_member_trees.specs.Calling.{effect_put}

-- ---- statements of the program

pub view_set_field : (object new : code_exp) (name : List ℕ) → view_stm (stm.SetField object name new) ≡ SetField (view_exp object) name (view_exp new)
view_set_field object new name = search (rules, stm_lemmas)

pub view_set_static : (class name : List ℕ) (new : code_exp) → view_stm (stm.SetStatic class name new) ≡ SetStatic class name (view_exp new)
view_set_static class name new = search (rules, stm_lemmas)

pub view_set_element : (array index new : code_exp) → view_stm (stm.SetElement array index new) ≡ SetElement (view_exp array) (view_exp index) (view_exp new)
view_set_element array index new = search (rules, stm_lemmas)

pub view_run : (exp : code_exp) → view_stm (stm.Run exp) ≡ Run (view_exp exp)
view_run exp = search (rules, stm_lemmas)

-- ---- what assigns nothing

neither : (first second : Bool) → first ≡ false → second ≡ false → false ≡ first || second
neither first second f s = sym (ap (λ (one : Bool). one || second) f ∙ s)

as-assigned : (n : ℕ) (below : List Pending) (statement : Stm) (assigned : Var → Bool) → ((variable : Var) → false ≡ assigned variable) → emit (is_among []) n below statement ≡ emit assigned n below statement
as-assigned n below statement assigned nothing =
    ap (λ (one : Var → Bool). emit one n below statement) among-none ∙ ap (λ (one : Var → Bool). emit one n below statement) (fun_ext nothing)

pub field-put : (n : ℕ) (below : List Pending) (object new : Exp) (name : List ℕ) → is_quiet object ≡ true → is_quiet new ≡ true
    → emit (is_among []) n below (SetField object name new) ≡ effect_put n below (Some (SetField object name new, set_field))
field-put n below object new name o h =
    as-assigned n below (SetField object name new) (sets (set_field {object = object} {new = new} {name = name})) (λ variable. neither _ _ (quiet variable object o) (quiet variable new h))

pub static-put : (n : ℕ) (below : List Pending) (class name : List ℕ) (new : Exp) → is_quiet new ≡ true → emit (is_among []) n below (SetStatic class name new) ≡ effect_put n below (Some (SetStatic class name new, set_static))
static-put n below class name new h = as-assigned n below (SetStatic class name new) (sets (set_static {class = class} {name = name} {new = new})) (λ variable. sym (quiet variable new h))

pub element-put : (n : ℕ) (below : List Pending) (array index new : Exp) → is_quiet array ≡ true → is_quiet index ≡ true → is_quiet new ≡ true
    → emit (is_among []) n below (SetElement array index new) ≡ effect_put n below (Some (SetElement array index new, set_element))
element-put n below array index new a i h =
    as-assigned n below (SetElement array index new) (sets (set_element {array = array} {index = index} {new = new}))
    (λ variable. neither _ _ (quiet variable array a) (sym (neither _ _ (quiet variable index i) (quiet variable new h))))

-- a call as a statement
pub run-put : (n : ℕ) (below : List Pending) (exp : Exp) → is_some (dropped exp) ≡ true → is_quiet exp ≡ true → emit (is_among []) n below (Run exp) ≡ effect_put n below (dropped exp)
run-put n below (trees.Int number) e h = absurd (cc)
run-put n below (trees.Long number) e h = absurd (cc)
run-put n below (Text units) e h = absurd (cc)
run-put n below (Truth known) e h = absurd (cc)
run-put n below trees.Null e h = absurd (cc)
run-put n below This e h = absurd (cc)
run-put n below (Variable variable) e h = absurd (cc)
run-put n below (ClassOf kind) e h = absurd (cc)
run-put n below (Field object name) e h = absurd (cc)
run-put n below (Static class name) e h = absurd (cc)
run-put n below (Element array index) e h = absurd (cc)
run-put n below (Call object name arguments) e h =
    as-assigned n below (Run (Call object name arguments)) (sets (call {object = object} {name = name} {arguments = arguments})) (λ variable. sym (quiet variable (Call object name arguments) h))
run-put n below (StaticCall class name arguments) e h =
    as-assigned n below (Run (StaticCall class name arguments)) (sets (static_call {class = class} {name = name} {arguments = arguments})) (λ variable. sym (quiet variable (StaticCall class name arguments) h))
run-put n below (SuperCall above name arguments) e h =
    as-assigned n below (Run (SuperCall above name arguments)) (sets (super_call {above = above} {name = name} {arguments = arguments})) (λ variable. sym (quiet variable (SuperCall above name arguments) h))
run-put n below (New class arguments) e h =
    as-assigned n below (Run (New class arguments)) (sets (birth {class = class} {arguments = arguments})) (λ variable. sym (quiet variable (New class arguments) h))
run-put n below (NewArray kind sizes more) e h = absurd (cc)
run-put n below (Cast kind operand) e h = absurd (cc)
run-put n below (InstanceOf operand kind) e h = absurd (cc)
run-put n below (Negative operand) e h = absurd (cc)
run-put n below (Not operand) e h = absurd (cc)
run-put n below (Binary operator first second) e h = absurd (cc)
run-put n below (Choice test first second) e h = absurd (cc)
run-put n below (Assign variable new) e h = absurd (cc)
