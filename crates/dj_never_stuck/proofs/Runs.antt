-- How runs of parts are put together, in few words.
use Rattle.std.proofs.Common.{◌≡◌, false, List, Option, Some, None}
use Rattle.std.specs.Prelude.{is_some}
use Rattle.dj_names.specs.declared.header.Header.{Header}
use Rattle.dj_names.specs.Types.{JType}
use Rattle.dj_values.specs.Values.{RefValue}
use Rattle.dj_values.specs.Fits.{IsThrowable}
use Rattle.dj_values.specs.Outcomes.{Throws, More, Stuck, Reply, State, Outcome, Is, Stops, outside}
use Rattle.dj_meaning.specs.StaticTypes.{Scope}
use Rattle.dj_meaning.specs.Runs.{Store, map_state}
use Rattle.dj_syntax.specs.declared.variable.Var.{Var}
use Rattle.dj_variables.specs.Sets.{Set}
use Rattle.dj_held.specs.Replies.{Replied, EndsSo, Ends}
use Rattle.dj_held.specs.Reaching.{Reaches, Leaves}
use Rattle.dj_held.proofs.Ending.{weaker}
use Rattle.dj_held.proofs.Ending as ending
use Rattle.dj_held.proofs.Invariant.{later, none_known, same_store}

-- told otherwise, whatever the run gave
pub weaken : {A : Type 0} {P Q : A → State Store → Type 0} {T U : RefValue → State Store → Type 0} {run : Outcome Store A}
    → Ends A P T run → ((result : A) (t : State Store) → P result t → Q result t) → ((reference : RefValue) (t : State Store) → T reference t → U reference t) → Ends A Q U run
weaken p q u = weaker p (λ result t is m. q result t m) u

maps : {A : Type 0} {P : A → State Store → Type 0} {T : RefValue → State Store → Type 0} (Q : A → State Store → Type 0) (U : RefValue → State Store → Type 0) (change : State Store → State Store) (o : Outcome Store A)
    → EndsSo P T o → ((result : A) (t : State Store) → P result t → Q result (change t)) → ((reference : RefValue) (t : State Store) → T reference t → U reference (change t)) → EndsSo Q U (map_state change o)
maps Q U change (Is result state) p q u = q result state p
maps Q U change (Stops (Throws reference) state) p q u = u reference state p
maps Q U change (Stops More state) p q u = tt
maps Q U change (Stops Stuck state) p q u = absurd p

-- with another state
pub mapped : {A : Type 0} {P : A → State Store → Type 0} {T : RefValue → State Store → Type 0} {o : Outcome Store A} (Q : A → State Store → Type 0) (U : RefValue → State Store → Type 0) (change : State Store → State Store)
    → Ends A P T o → ((result : A) (t : State Store) → P result t → Q result (change t)) → ((reference : RefValue) (t : State Store) → T reference t → U reference (change t)) → Ends A Q U (map_state change o)
mapped {o = o} Q U change p q u = record { so = maps Q U change o p.so q u }

-- the variable isn't in scope yet
abbrev pub IsNew : Scope → Option (Var × JType) → Type 0
IsNew scope None = Unit {0}
IsNew scope (Some one) = is_some (scope one.0) ≡ false

-- from an earlier state
pub leaves_later : {headers : List Header} {scope : Scope} {a : Set} {s t : State Store} (reference : RefValue) (u : State Store) → Reaches headers scope a s t → Leaves headers scope t reference u → Leaves headers scope s reference u
leaves_later reference u r l = record { throwable = l.throwable; reaches = later r l.reaches }

-- an exception is thrown on
pub thrown_on : {headers : List Header} {A : Type 0} {P : A → State Store → Type 0} {scope : Scope} {a : Set} {z : State Store} (reference : RefValue) (t : State Store) → IsThrowable headers reference → Reaches headers scope a z t → Ends A P (Leaves headers scope z) (Stops (Throws reference) t)
thrown_on reference t is r = record { so = record { throwable = is; reaches = none_known r } }

-- what is asked of the outside leaves the variables as they are
pub asks : {headers : List Header} {A : Type 0} {So : A → Type 0} {scope : Scope} {a : Set} {z : State Store} {reply : Reply A} (t : State Store) → Replied A headers So reply → Reaches headers scope a z t
    → Ends A (λ result u. So result × Reaches headers scope a z u) (Leaves headers scope z) (outside headers reply t)
asks {headers = headers} t h r = ending.outside_ends headers t h (λ result u e so. (so, same_store u r e)) (λ reference u e is. record { throwable = is; reaches = none_known (same_store u r e) })
