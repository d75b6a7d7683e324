-- The beginning and the end of a body.
use Rattle.std.proofs.Common.{arith, ◌≡◌, ◌==◌, ℕ, zero, suc, ◌+◌, ◌^◌, ◌<◌, ◌≤◌, take, get_or, Bool, true, false, List, [], ◌∷◌, ◌++◌, length, map, Option, Some, None, refl, sym, ap, ◌∙◌}
use Rattle.std.proofs.Math.Dec.{eqb-suc-zero, eqb-suc-suc, eqb-zero-suc}
use Rattle.std.proofs.lemmas.List.{length-map, length-take-le, take_more, take_all, map_push}
use Rattle.std.specs.Prelude.{slice_get, if◌then◌else◌}
use Rattle.dj_names.specs.declared.header.Header.{Header}
use Rattle.dj_names.specs.declared.members.ClassMembers.{ClassMembers}
use Rattle.dj_names.specs.Types.{JType, parameters_of, result_of}
use Rattle.dj_names.specs.MethodNames.{is_constructor}
use Rattle.dj_syntax.specs.declared.variable.VarKind.{VarKind}
use Rattle.dj_syntax.specs.declared.variable.VarKind.TheVariants as kind
use Rattle.dj_syntax.specs.declared.variable.Var.{Var}
use Rattle.dj_syntax.specs.Trees.{Body}
use Rattle.dj_values.specs.Values.{RefValue, Value, Action, Answer, End}
use Rattle.dj_values.specs.declared.value.Value as code_value
use Rattle.dj_values.specs.Views.{view_value}
use Rattle.dj_values.specs.Fits.{is_static, this_of, behind_this}
use Rattle.dj_values.specs.Outcomes.{Stuck, Is, Stops, World, State, opening, shown}
use Rattle.dj_meaning.specs.StaticTypes.{Context, Scope, is_same_variable}
use Rattle.dj_meaning.specs.Runs.{Store, ◌>>=◌}
use Rattle.dj_meaning.specs.Completions.{Return, Break, Continue, Misfit}
use Rattle.dj_meaning.specs.Meaning.{run_statements, ended, of_parameter, run_body, context_of, source_show}
use Rattle.dj_outside.specs.Runs.{state_of}
use Rattle.dj_scopes.specs.Parameters.{parameters_in}
use Rattle.dj_source.specs.Running.{parameter}

-- ---- parameters

got_push : {A : Type 0} (items : List A) (one : A) (number : ℕ) → (if number == length items then Some one else slice_get items number) ≡ slice_get (items ++ one ∷ []) number
got_push [] one zero = refl
got_push [] one (suc number) = ap (λ test. if test then Some one else slice_get [] (suc number)) (eqb-suc-zero number)
got_push (first ∷ rest) one zero = ap (λ test. if test then Some one else Some first) (eqb-zero-suc (length rest))
got_push (first ∷ rest) one (suc number) = ap (λ test. if test then Some one else slice_get rest number) (eqb-suc-suc number (length rest)) ∙ got_push rest one number

pushed_kind : {A : Type 0} (items : List A) (one : A) (other : VarKind) (number : ℕ)
    → (if is_same_variable (record { kind = other; number = number }) (parameter (length items)) then Some one else of_parameter items (record { kind = other; number = number })) ≡ of_parameter (items ++ one ∷ []) (record { kind = other; number = number })
pushed_kind items one kind.Param number = got_push items one number
pushed_kind items one kind.Local number = refl
pushed_kind items one kind.Caught number = refl
pushed_kind items one kind.State number = refl

-- one parameter more
pub parameter_pushed : {A : Type 0} (items : List A) (one : A) (number : ℕ) (other : Var) → number ≡ length items → (if is_same_variable other (parameter number) then Some one else of_parameter items other) ≡ of_parameter (items ++ one ∷ []) other
parameter_pushed items one number other is =
    ap (λ count. if is_same_variable other (parameter count) then Some one else of_parameter items other) is ∙ pushed_kind items one other.kind other.number

none_kind : {A : Type 0} (other : VarKind) (number : ℕ) → of_parameter {A = A} [] (record { kind = other; number = number }) ≡ None
none_kind kind.Param number = refl
none_kind kind.Local number = refl
none_kind kind.Caught number = refl
none_kind kind.State number = refl

pub no_parameter : {A : Type 0} (other : Var) → of_parameter {A = A} [] other ≡ None
no_parameter other = none_kind other.kind other.number

-- so few parameters are all in scope
pub all_in_scope : (types : List JType) (scope : Scope) → length types < 2 ^ 32 → scope ≡ parameters_in types → (variable : Var) → scope variable ≡ of_parameter types variable
all_in_scope types scope few is variable = ap (λ (one : Scope). one variable) is ∙ ap (λ list. of_parameter list variable) (take_all 4294967295 types (omega (arith, few)))

-- ---- shows

module _ (headers : List Header) (members : List ClassMembers) (body : Body) (arguments : List Value) (answers : List Answer) (bound : ℕ) where
  -- what a run knows
  pub context_is : (result : Option JType) (this : Option Value) (constructs : Bool) → result ≡ result_of body.descriptor → this ≡ this_of (is_static body.flags) arguments → constructs ≡ is_constructor body.name
      → record { headers = headers; members = (context_of headers members body arguments).members; class = body.class; result = result; this = this; constructs = constructs } ≡ context_of headers members body arguments
  context_is result this constructs first second third = λ i. record {
    headers = headers;
    members = (context_of headers members body arguments).members;
    class = body.class;
    result = first i;
    this = second i;
    constructs = third i;
  }

  pub show_is : (context : Context) (scope : Scope) (variables : Var → Option Value) (held : List RefValue) (old : World) (actions found : List Action) (end : End)
      → context ≡ context_of headers members body arguments
      → ((variable : Var) → scope variable ≡ of_parameter (parameters_of body.descriptor) variable)
      → ((variable : Var) → variables variable ≡ of_parameter (behind_this (is_static body.flags) arguments) variable)
      → held ≡ [] → old ≡ opening answers → actions ≡ found
      → shown ((run_statements context scope bound body.statements >>= ended context.result) (state_of (record { variables = variables; held = held }) old)) ≡ record { actions = found; end = end }
      → record { actions = actions; end = end } ≡ source_show headers members body arguments answers bound
  show_is context scope variables held old actions found end knows scoped valued free opened done is =
      ap (λ list. record { actions = list; end = end }) done ∙ sym is
      ∙ ap (λ one. shown ((run_statements one scope bound body.statements >>= ended one.result) (state_of (record { variables = variables; held = held }) old))) knows
      ∙ ap (λ types. shown ((run_statements whole types bound body.statements >>= ended whole.result) (state_of (record { variables = variables; held = held }) old))) (λ i variable. scoped variable i)
      ∙ ap (λ values. shown (run_body whole body bound (state_of (record { variables = values; held = held }) old))) (λ i variable. valued variable i)
      ∙ ap (λ list. shown (run_body whole body bound (state_of (record { variables = of_parameter (behind_this (is_static body.flags) arguments); held = list }) old))) free
      ∙ ap (λ world. shown (run_body whole body bound (state_of (record { variables = of_parameter (behind_this (is_static body.flags) arguments); held = [] }) world))) opened
    where
      whole : Context
      whole = context_of headers members body arguments

-- ---- the end of a body, whatever its result is

pub ended_return : (result : Option JType) (value : Option Value) (state : State Store) → ended result (Return value) state ≡ Is value state
ended_return None value state = refl
ended_return (Some type) value state = refl

pub ended_break : (result : Option JType) (label : ℕ) (state : State Store) → ended result (Break label) state ≡ Stops Stuck state
ended_break None label state = refl
ended_break (Some type) label state = refl

pub ended_continue : (result : Option JType) (label : ℕ) (state : State Store) → ended result (Continue label) state ≡ Stops Stuck state
ended_continue None label state = refl
ended_continue (Some type) label state = refl

pub ended_misfit : (result : Option JType) (state : State Store) → ended result Misfit state ≡ Stops Stuck state
ended_misfit None state = refl
ended_misfit (Some type) state = refl

-- ---- `this` and the other arguments

pub this_first : (static : Bool) (first : Value) (rest : List Value) → static ≡ false → this_of static (first ∷ rest) ≡ Some first
this_first true first rest is = absurd (cc)
this_first false first rest is = refl

shorter : (static : Bool) (arguments : List Value) → length (behind_this static arguments) ≤ length arguments
shorter true arguments = omega arith
shorter false [] = omega arith
shorter false (first ∷ rest) = omega arith

-- few arguments are few behind `this`
pub few_behind : (static : Bool) (arguments rest : List code_value.Value) → map view_value rest ≡ behind_this static (map view_value arguments) → length arguments < 2 ^ 32 → length rest < 2 ^ 32
few_behind static arguments rest is few =
    let first : length rest ≡ length (behind_this static (map view_value arguments)) = sym (length-map rest view_value) ∙ ap length is in
    let second = shorter static (map view_value arguments) in
    let third = length-map arguments view_value in
    omega (arith, first, second, third, few)

-- ---- parameters, one after another

pub first_parameters : {A B : Type 0} (view : A → B) (list : List A) (k number : ℕ) (one : A) (old new : Var → Option B) → k < length list → one ≡ get_or list k one → number ≡ k
    → ((variable : Var) → old variable ≡ of_parameter (map view (take k list)) variable)
    → ((variable : Var) → new variable ≡ (if is_same_variable variable (parameter number) then Some (view one) else old variable))
    → (variable : Var) → new variable ≡ of_parameter (map view (take (k + 1) list)) variable
first_parameters view list k number one old new within is same so_far so variable =
    so variable ∙ ap (λ found. if is_same_variable variable (parameter number) then Some (view one) else found) (so_far variable)
    ∙ parameter_pushed (map view (take k list)) (view one) number variable (same ∙ sym (length-map (take k list) view ∙ length-take-le k list (omega arith)))
    ∙ ap (λ items. of_parameter items variable) (sym (map_push view (take k list) one))
    ∙ ap (λ items. of_parameter (map view items) variable) (sym (take_more list k one within ∙ ap (λ last. take k list ++ last ∷ []) (sym is)))

pub all_parameters : {A B : Type 0} (view : A → B) (list : List A) (k : ℕ) (found : Var → Option B) → length list ≤ k → ((variable : Var) → found variable ≡ of_parameter (map view (take k list)) variable)
    → (variable : Var) → found variable ≡ of_parameter (map view list) variable
all_parameters view list k found past so_far variable = so_far variable ∙ ap (λ items. of_parameter (map view items) variable) (take_all k list past)
