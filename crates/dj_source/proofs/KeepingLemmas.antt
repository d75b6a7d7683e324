-- What values variables had is put back.
use Rattle.std.proofs.Common.{◌≡◌, Bool, true, false, List, [], ◌∷◌, ◌++◌, Option, Some, None, refl, sym, ap, ◌∙◌}
use Rattle.std.specs.Prelude.{is_some, option_map, Result, Ok, Err, IfSome, if◌then◌else◌}
use Rattle.dj_names.specs.Types.{JType}
use Rattle.dj_syntax.specs.declared.variable.Var.{Var}
use Rattle.dj_values.specs.Values.{Value}
use Rattle.dj_values.specs.Views.{view_value}
use Rattle.dj_values.specs.Outcomes as outcomes
use Rattle.dj_values.specs.Outcomes.{Stuck, State, Outcome, Is, Stops, bind}
use Rattle.dj_meaning.specs.StaticTypes.{Scope}
use Rattle.dj_meaning.specs.Runs.{Store, Meaning, ◌>>=◌, stuck, put, with_value, with_store, map_state}
use Rattle.dj_meaning.specs.Completions.{Completion}
use Rattle.dj_meaning.specs.Declarations.{locally, opened, passed_one}
use Rattle.dj_outside.specs.declared.stop.Stop as code_stop
use Rattle.dj_outside.specs.Runs.{stop_of, Ends}
use Rattle.dj_source.specs.declared.scopes.KeptValue.{KeptValue}
use Rattle.dj_source.specs.Keeping.{store_back, back, store_without}
use Rattle.dj_source.specs.Running.{Passes}

-- ---- one more is kept

pub store_back-push : (kept : List KeptValue) (one : KeptValue) (store : Store) → store_back (kept ++ one ∷ []) store ≡ store_back kept (with_value one.variable (option_map view_value one.value) store)
store_back-push [] one store = refl
store_back-push (first ∷ rest) one store = ap (with_value first.variable (option_map view_value first.value)) (store_back-push rest one store)

pub keeps_value : (old new : List KeptValue) (one : KeptValue) (value : Option Value) → new ≡ old ++ one ∷ [] → option_map view_value one.value ≡ value → (other : Store) → store_back new other ≡ store_back old (with_value one.variable value other)
keeps_value old new one value is same other = ap (λ list. store_back list other) is ∙ store_back-push old one other ∙ ap (λ found. store_back old (with_value one.variable found other)) same

-- ---- the last one that was kept is put back

pub value_put_back : (kept rest : List KeptValue) (one : KeptValue) (state after whole : State Store) → kept ≡ rest ++ one ∷ [] → after ≡ with_store (with_value one.variable (option_map view_value one.value)) state → with_store (store_back kept) state ≡ whole
    → with_store (store_back rest) after ≡ whole
value_put_back kept rest one state after whole is put so_far =
    ap (with_store (store_back rest)) put ∙ ap (λ (store : Store). record { store = store; world = state.world }) (sym (store_back-push rest one state.store))
    ∙ ap (λ list. with_store (store_back list) state) (sym is) ∙ so_far

-- ---- declarations

pub opens_stuck : (scope : Scope) (variable : Var) (test : Bool) (state : State Store) → test ≡ is_some (scope variable) → test ≡ true → opened scope variable state ≡ Stops Stuck state
opens_stuck scope variable test state is holds = ap (λ answer. (if answer then stuck else put variable None) state) (sym is ∙ holds)

pub opens_free : (scope : Scope) (variable : Var) (test : Bool) (state after : State Store) → test ≡ is_some (scope variable) → test ≡ false → after ≡ with_store (with_value variable None) state → opened scope variable state ≡ Is tt after
opens_free scope variable test state after is fails so = ap (λ answer. (if answer then stuck else put variable None) state) (sym is ∙ fails) ∙ ap (Is tt) (sym so)

-- ---- what is of a part alone, with what is kept already

map_twice : {A : Type 0} (first second both : Store → Store) (outcome : Outcome Store A) → ((store : Store) → both store ≡ first (second store)) → map_state (with_store first) (map_state (with_store second) outcome) ≡ map_state (with_store both) outcome
map_twice first second both outcome same = twice outcome ∙ ap (λ change. map_state (with_store change) outcome) (λ i store. sym (same store) i)
  where
    twice : {A : Type 0} (run : Outcome Store A) → map_state (with_store first) (map_state (with_store second) run) ≡ map_state (with_store (λ store. first (second store))) run
    twice (Is result state) = refl
    twice (Stops why state) = refl

pub back_locally : (kept more : List KeptValue) (one : Option (Var × JType)) (part : Meaning Completion) (state : State Store)
    → ((other : Store) → store_back more other ≡ store_back kept (store_without one state.store other)) → back kept (locally one part state) ≡ back more (part state)
back_locally kept more None part state same = ap (λ change. map_state (with_store change) (part state)) (λ i other. sym (same other) i)
back_locally kept more (Some one) part state same = map_twice (store_back kept) (with_value one.0 (state.store.variables one.0)) (store_back more) (part state) same

-- ---- a declaration that is jumped over

-- what comes behind it
abbrev declared_on : Meaning Completion → Unit {0} → Meaning Completion
declared_on next done = next

pub passes_one : (kept more : List KeptValue) (variable : Var) (type : JType) (scope : Scope) (result : Result (Unit {0}) code_stop.Stop) (old new : State Store)
    → ((other : Store) → store_back more other ≡ store_back kept (with_value variable (old.store.variables variable) other)) → Ends (λ (done : Unit {0}). done) result new (opened scope variable old)
    → (next : Meaning Completion) → Passes result more new next (back kept (passed_one scope (Some (variable, type)) next old))
passes_one kept more variable type scope (Ok done) old new keeps ends next =
    back_locally kept more (Some (variable, type)) (opened scope variable >>= declared_on next) old keeps ∙ ap (λ outcome. back more (bind outcome (declared_on next))) ends
passes_one kept more variable type scope (Err stop) old new keeps ends next = of_stop (stop_of stop) ends
  where
    of_stop : (why : Option outcomes.Stop) → IfSome why (λ it. opened scope variable old ≡ Stops it new) → IfSome why (λ it. back kept (passed_one scope (Some (variable, type)) next old) ≡ back more (Stops it new))
    of_stop None same = tt
    of_stop (Some it) same = back_locally kept more (Some (variable, type)) (opened scope variable >>= declared_on next) old keeps ∙ ap (λ outcome. back more (bind outcome (declared_on next))) same
