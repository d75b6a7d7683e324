-- Parts of expressions, one after another, and what comes of them where one stops.
use Rattle.std.proofs.Common.{◌≡◌, List, Option, Some, None, sym, ap, ◌∙◌, subst}
use Rattle.std.specs.Prelude.{Result, Err, option_map}
use Rattle.dj_names.specs.declared.header.Header.{Header}
use Rattle.dj_names.specs.Headers.{Name}
use Rattle.dj_names.specs.Types.{JType, parameters_of}
use Rattle.dj_syntax.specs.declared.variable.Var.{Var}
use Rattle.dj_values.specs.declared.value.Value as code_value
use Rattle.dj_values.specs.Values.{Value, New}
use Rattle.dj_values.specs.Values as plain
use Rattle.dj_values.specs.Views.{view_value}
use Rattle.dj_values.specs.Outcomes.{Stuck, State, Outcome, Is, Stops, bind, ask_value, outside}
use Rattle.dj_meaning.specs.StaticTypes.{Context, Scope}
use Rattle.dj_meaning.specs.Targets.{Target}
use Rattle.dj_meaning.specs.Objects.{called}
use Rattle.dj_meaning.specs.Runs.{Store, Meaning, pure, ◌>>=◌, present, given, with, fitted, put, assigned, with_value, with_store}
use Rattle.dj_meaning.specs.Expressions.{call_on, call_static, made}
use Rattle.dj_outside.specs.declared.stop.Stop as code_stop
use Rattle.dj_outside.specs.Runs.{Ends}
use Rattle.dj_objects.proofs.Binding.{stops_bind}

-- ---- one part and what comes behind it

module _ {A B C D : Type 0} (view : A → B) (other : C → D) (first : Meaning B) (next : B → Meaning D) (old middle : State Store) where
  -- behind a part that gave a result
  pub then_ends : (result : Result C code_stop.Stop) (new : State Store) (value : B) → first old ≡ Is value middle → Ends other result new (next value middle) → Ends other result new ((first >>= next) old)
  then_ends result new value is ends = subst (λ (run : Outcome Store D). Ends other result new run) (ap (λ run. bind run next) (sym is)) ends

  -- behind a part that stopped
  pub then_stops : (stop : code_stop.Stop) → Ends view (Err stop) middle (first old) → Ends other (Err stop) middle ((first >>= next) old)
  then_stops stop ends = stops_bind view other stop middle (first old) next ends

-- ---- what has to be there

pub with_is : {A B : Type 0} (asked : Option A) (one : A) (next : A → Meaning B) (state : State Store) → Some one ≡ asked → with asked next state ≡ next one state
with_is asked one next state is = ap (λ found. with found next state) (sym is)

pub with_ends : {A B C : Type 0} (view : C → B) (result : Result C code_stop.Stop) (asked : Option A) (one : A) (next : A → Meaning B) (old new : State Store) → Some one ≡ asked → Ends view result new (next one old) → Ends view result new (with asked next old)
with_ends {B = B} view result asked one next old new is ends = subst (λ (run : Outcome Store B). Ends view result new run) (sym (with_is asked one next old is)) ends

pub with_none : {A B : Type 0} (asked : Option A) (next : A → Meaning B) (state : State Store) → None ≡ asked → with asked next state ≡ Stops Stuck state
with_none asked next state is = ap (λ found. with found next state) (sym is)

-- ---- assignments

module _ (headers : List Header) (scope : Scope) (variable : Var) (new : Meaning Value) (type : JType) (known : Some type ≡ scope variable) (old middle : State Store) where
  -- what is assigned, once there is a value
  abbrev kept_on : Value → Meaning Value
  kept_on kept = put variable (Some kept) >>= λ done. pure kept

  pub assigned_is : (value : Value) (after : State Store) → (new >>= fitted headers type) old ≡ Is value middle → after ≡ with_store (with_value variable (Some value)) middle → assigned headers scope variable new old ≡ Is value after
  assigned_is value after is stored =
      with_is (scope variable) type (λ wanted. new >>= fitted headers wanted >>= kept_on) old known ∙ ap (λ run. bind run kept_on) is ∙ ap (Is value) (sym stored)

  pub assigned_stops : (stop : code_stop.Stop) → Ends view_value (Err stop) middle ((new >>= fitted headers type) old) → Ends view_value (Err stop) middle (assigned headers scope variable new old)
  assigned_stops stop ends =
      with_ends view_value (Err stop) (scope variable) type (λ wanted. new >>= fitted headers wanted >>= kept_on) old middle known
      (stops_bind view_value view_value stop middle ((new >>= fitted headers type) old) kept_on ends)

-- ---- calls

module _ (context : Context) (asked : Option Target) (arguments : List JType → Meaning (List Value)) (target : Target) (types : List JType) (found : Some target ≡ asked) (typed : types ≡ parameters_of target.descriptor) where
  module _ (object : Meaning Value) where
    -- what comes behind the object, and behind the arguments
    abbrev asks : Value → List Value → Meaning (Option Value)
    asks receiver values = outside context.headers (called target receiver values)

    abbrev arguments_on : Value → Meaning (Option Value)
    arguments_on receiver = arguments (parameters_of target.descriptor) >>= asks receiver

    abbrev call_of : Target → Meaning (Option Value)
    call_of one = object >>= λ receiver. arguments (parameters_of one.descriptor) >>= λ values. outside context.headers (called one receiver values)

    pub call_ends : (result : Result (Option code_value.Value) code_stop.Stop) (receiver : Value) (values : List Value) (old first second new : State Store)
        → object old ≡ Is receiver first → arguments types first ≡ Is values second → Ends (option_map view_value) result new (outside context.headers (called target receiver values) second)
        → Ends (option_map view_value) result new (call_on context asked object arguments old)
    call_ends result receiver values old first second new objects evaluates ends =
        with_ends (option_map view_value) result asked target call_of old new found
        (then_ends view_value (option_map view_value) object arguments_on old first result new receiver objects
        (then_ends (λ (list : List Value). list) (option_map view_value) (arguments (parameters_of target.descriptor)) (asks receiver) first second result new values (ap (λ list. arguments list first) (sym typed) ∙ evaluates) ends))

    pub call_stops_object : (stop : code_stop.Stop) (old first : State Store) → Ends view_value (Err stop) first (object old) → Ends (option_map view_value) (Err stop) first (call_on context asked object arguments old)
    call_stops_object stop old first ends =
        with_ends (option_map view_value) (Err stop) asked target call_of old first found (then_stops view_value (option_map view_value) object arguments_on old first stop ends)

    pub call_stops_arguments : {A : Type 0} (view : A → List Value) (stop : code_stop.Stop) (receiver : Value) (old first second : State Store) → object old ≡ Is receiver first → Ends view (Err stop) second (arguments types first)
        → Ends (option_map view_value) (Err stop) second (call_on context asked object arguments old)
    call_stops_arguments view stop receiver old first second objects ends =
        with_ends (option_map view_value) (Err stop) asked target call_of old second found
        (then_ends view_value (option_map view_value) object arguments_on old first (Err stop) second receiver objects
        (then_stops view (option_map view_value) (arguments (parameters_of target.descriptor)) (asks receiver) first second stop
        (subst (λ list. Ends view (Err stop) second (arguments list first)) typed ends)))

  abbrev static_of : Target → Meaning (Option Value)
  static_of one = arguments (parameters_of one.descriptor) >>= λ values. outside context.headers (called one plain.Null values)

  pub static_ends : (result : Result (Option code_value.Value) code_stop.Stop) (values : List Value) (old first new : State Store)
      → arguments types old ≡ Is values first → Ends (option_map view_value) result new (outside context.headers (called target plain.Null values) first) → Ends (option_map view_value) result new (call_static context asked arguments old)
  static_ends result values old first new evaluates ends =
      with_ends (option_map view_value) result asked target static_of old new found
      (then_ends (λ (list : List Value). list) (option_map view_value) (arguments (parameters_of target.descriptor)) (λ values. outside context.headers (called target plain.Null values)) old first result new values (ap (λ list. arguments list old) (sym typed) ∙ evaluates) ends)

  pub static_stops : {A : Type 0} (view : A → List Value) (stop : code_stop.Stop) (old first : State Store) → Ends view (Err stop) first (arguments types old) → Ends (option_map view_value) (Err stop) first (call_static context asked arguments old)
  static_stops view stop old first ends =
      with_ends (option_map view_value) (Err stop) asked target static_of old first found
      (then_stops view (option_map view_value) (arguments (parameters_of target.descriptor)) (λ values. outside context.headers (called target plain.Null values)) old first stop
      (subst (λ list. Ends view (Err stop) first (arguments list old)) typed ends))

  module _ (class : Name) where
    -- a new object, and what comes behind it
    abbrev new_object : Meaning Value
    new_object = outside context.headers (ask_value (New class))

    abbrev constructed : Value → List Value → Meaning Value
    constructed object values = outside context.headers (called target object values) >>= λ nothing. pure object

    abbrev made_of : Target → Meaning Value
    made_of one = new_object >>= λ object. arguments (parameters_of one.descriptor) >>= λ values. outside context.headers (called one object values) >>= λ nothing. pure object

    pub made_stops_object : (stop : code_stop.Stop) (old first : State Store) → Ends view_value (Err stop) first (new_object old) → Ends view_value (Err stop) first (made context class asked arguments old)
    made_stops_object stop old first ends =
        with_ends view_value (Err stop) asked target made_of old first found (then_stops view_value view_value new_object (λ object. arguments (parameters_of target.descriptor) >>= constructed object) old first stop ends)

    module _ (object : Value) (old first : State Store) (objects : new_object old ≡ Is object first) where
      abbrev behind : {C : Type 0} → (C → Value) → Result C code_stop.Stop → State Store → Type 0
      behind view result new = Ends view result new ((arguments (parameters_of target.descriptor) >>= constructed object) first)

      made_ends : (result : Result code_value.Value code_stop.Stop) (new : State Store) → behind view_value result new → Ends view_value result new (made context class asked arguments old)
      made_ends result new ends =
          with_ends view_value result asked target made_of old new found (then_ends view_value view_value new_object (λ one. arguments (parameters_of target.descriptor) >>= constructed one) old first result new object objects ends)

      pub made_stops_arguments : {A : Type 0} (view : A → List Value) (stop : code_stop.Stop) (second : State Store) → Ends view (Err stop) second (arguments types first) → Ends view_value (Err stop) second (made context class asked arguments old)
      made_stops_arguments view stop second ends =
          made_ends (Err stop) second
          (then_stops view view_value (arguments (parameters_of target.descriptor)) (constructed object) first second stop (subst (λ list. Ends view (Err stop) second (arguments list first)) typed ends))

      module _ (values : List Value) (second : State Store) (evaluates : arguments types first ≡ Is values second) where
        behind_values : (result : Result code_value.Value code_stop.Stop) (new : State Store) → Ends view_value result new (constructed object values second) → behind view_value result new
        behind_values result new ends =
            then_ends (λ (list : List Value). list) view_value (arguments (parameters_of target.descriptor)) (constructed object) first second result new values (ap (λ list. arguments list first) (sym typed) ∙ evaluates) ends

        pub made_stops_call : (stop : code_stop.Stop) (third : State Store) → Ends (option_map view_value) (Err stop) third (outside context.headers (called target object values) second) → Ends view_value (Err stop) third (made context class asked arguments old)
        made_stops_call stop third ends =
            made_ends (Err stop) third (behind_values (Err stop) third
            (then_stops (option_map view_value) view_value (outside context.headers (called target object values)) (λ nothing. pure object) second third stop ends))

        pub made_is : (nothing : Option Value) (third : State Store) → outside context.headers (called target object values) second ≡ Is nothing third → made context class asked arguments old ≡ Is object third
        made_is nothing third calls =
            with_is asked target made_of old found ∙ ap (λ run. bind run (λ one. arguments (parameters_of target.descriptor) >>= constructed one)) objects
            ∙ ap (λ run. bind run (constructed object)) (ap (λ list. arguments list first) (sym typed) ∙ evaluates) ∙ ap (λ run. bind run (λ nothing. pure object)) calls

-- ---- what a call gives

pub given_is : (part : Meaning (Option Value)) (value : Value) (old new : State Store) → part old ≡ Is (Some value) new → given part old ≡ Is value new
given_is part value old new is = ap (λ run. bind run present) is

pub given_none : (part : Meaning (Option Value)) (old new : State Store) → part old ≡ Is None new → given part old ≡ Stops Stuck new
given_none part old new is = ap (λ run. bind run present) is
