-- States of a run, and what comes of actions in them.
use Rattle.std.proofs.Common.{◌≡◌, ℕ, List, Option, Some, None, sym, ap, ◌∙◌, subst}
use Rattle.std.specs.Prelude.{if◌then◌else◌, option_map, Ok, Err, IfSome}
use Rattle.dj_names.specs.declared.header.Header.{Header}
use Rattle.dj_syntax.specs.declared.variable.Var.{Var}
use Rattle.dj_values.specs.declared.value.Value as code_value
use Rattle.dj_values.specs.Values.{RefValue, Value}
use Rattle.dj_values.specs.Views.{view_value}
use Rattle.dj_values.specs.Outcomes.{Stuck, Reply, there, ask, ask_value, trap, World, State, Outcome, Is, Stops, outside, bind}
use Rattle.dj_values.specs.Outcomes as outcomes
use Rattle.dj_values.specs.Values as plain
use Rattle.dj_outside.specs.declared.stop.Stop as code_stop
use Rattle.dj_outside.specs.Runs.{state_of, alone, stop_of, Ends}
use Rattle.dj_outside.proofs.Anywhere.{ends_anywhere, trap_as}
use Rattle.dj_meaning.specs.StaticTypes.{is_same_variable}
use Rattle.dj_meaning.specs.Runs.{with_value, with_store}
use Rattle.dj_objects.proofs.Binding.{outside-then, stops_bind}

-- a store in which a variable has another value
pub stored : (variable : Var) (value : Option Value) (old new : Var → Option Value) (held : List RefValue) (world : World)
    → ((other : Var) → new other ≡ (if is_same_variable other variable then value else old other))
    → state_of (record { variables = new; held = held }) world ≡ with_store (with_value variable value) (state_of (record { variables = old; held = held }) world)
stored variable value old new held world same = ap (λ variables. state_of (record { variables = variables; held = held }) world) (λ i other. same other i)

-- what an action that a value answers came to
pub ask_gives : {S : Type 0} (headers : List Header) (action : plain.Action) (old new : State S) (value : code_value.Value) → Ends (option_map view_value) (Ok (Some value)) new (outside headers (ask action) old) → outside headers (ask_value action) old ≡ Is (view_value value) new
ask_gives headers action old new value is = outside-then headers (ask action) there old ∙ ap (λ run. bind run (λ found after. outside headers (there found) after)) is

pub ask_lacks : {S : Type 0} (headers : List Header) (action : plain.Action) (old new : State S) → Ends (option_map view_value) (Ok None) new (outside headers (ask action) old) → outside headers (ask_value action) old ≡ Stops Stuck new
ask_lacks headers action old new is = outside-then headers (ask action) there old ∙ ap (λ run. bind run (λ found after. outside headers (there found) after)) is

pub ask_stops : {S : Type 0} (headers : List Header) (action : plain.Action) (old new : State S) (stop : code_stop.Stop) → Ends (option_map view_value) (Err stop) new (outside headers (ask action) old) → Ends view_value (Err stop) new (outside headers (ask_value action) old)
ask_stops {S = S} headers action old new stop is =
    subst (λ (run : Outcome S Value). Ends view_value (Err stop) new run) (sym (outside-then headers (ask action) there old))
    (stops_bind (option_map view_value) view_value stop new (outside headers (ask action) old) (λ found after. outside headers (there found) after) is)

-- a trap beside any store, in place of a value
pub trap_anywhere : {S : Type 0} (headers : List Header) (class : List ℕ) (store : S) (old new : World) (stop : code_stop.Stop)
    → IfSome (stop_of stop) (λ why. outside {A = Option Value} headers (trap class) (alone old) ≡ Stops why (alone new)) → Ends (option_map view_value) (Err stop) (state_of store new) (outside headers (trap class) (state_of store old))
trap_anywhere headers class store old new stop is = ends_anywhere (option_map view_value) headers (trap class) store old new (Err stop) is

pub trap_value : {S : Type 0} (headers : List Header) (class : List ℕ) (old new : State S) (stop : code_stop.Stop)
    → Ends (option_map view_value) (Err stop) new (outside headers (trap class) old) → Ends view_value (Err stop) new (outside headers (trap class) old)
trap_value {S = S} headers class old new stop is = of_stop (stop_of stop) is
  where
    of_stop : (why : Option outcomes.Stop) → IfSome why (λ it. outside {A = Option Value} headers (trap class) old ≡ Stops it new) → IfSome why (λ it. outside {A = Value} headers (trap class) old ≡ Stops it new)
    of_stop None same = tt
    of_stop (Some it) same = trap_as (Option Value) Value headers class old new it same
