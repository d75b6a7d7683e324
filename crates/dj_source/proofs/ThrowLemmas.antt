-- References that are wanted, and what is thrown.
use Rattle.std.proofs.Common.{◌≡◌, ℕ, Bool, List, Option, Some, None, refl, sym, ap, ◌∙◌, subst}
use Rattle.std.specs.Prelude.{codes, Err, IfSome, option_map, if◌then◌else◌}
use Rattle.dj_names.specs.declared.header.Header.{Header}
use Rattle.dj_values.specs.Values.{RefValue, Value, Int, Long, Null, Ref, Answer, Given, Done, Thrown, Trap}
use Rattle.dj_values.specs.Views.{view_reference, view_value}
use Rattle.dj_values.specs.Deciding.{is_throwable}
use Rattle.dj_values.specs.Outcomes as outcomes
use Rattle.dj_values.specs.Outcomes.{Throws, Stuck, Reply, Gives, Halts, Asks, told, then_on, trap, State, Outcome, Is, Stops, bind, outside}
use Rattle.dj_outside.specs.declared.stop.Stop as code_stop
use Rattle.dj_outside.specs.Runs.{stop_of, Ends}
use Rattle.dj_outside.proofs.Anywhere.{trap_as}
use Rattle.dj_meaning.specs.StaticTypes.{Context}
use Rattle.dj_meaning.specs.Objects.{with_object}
use Rattle.dj_meaning.specs.Runs.{Store, Meaning}
use Rattle.dj_meaning.specs.Completions.{Completion, thrown}
use Rattle.dj_objects.proofs.Binding.{outside-then, stops_bind}
use Rattle.dj_source.specs.Running.{view_completion}

-- a trap, in place of anything
pub trap_other : {S A B : Type 0} (view : A → B) (headers : List Header) (class : List ℕ) (old new : State S) (stop : code_stop.Stop)
    → Ends (option_map view_value) (Err stop) new (outside headers (trap class) old) → Ends view (Err stop) new (outside headers (trap class) old)
trap_other {S = S} {B = B} view headers class old new stop is = of_stop (stop_of stop) is
  where
    of_stop : (why : Option outcomes.Stop) → IfSome why (λ it. outside {A = Option Value} headers (trap class) old ≡ Stops it new) → IfSome why (λ it. outside {A = B} headers (trap class) old ≡ Stops it new)
    of_stop None same = tt
    of_stop (Some it) same = trap_as (Option Value) B headers class old new it same

-- what is stuck, of any kind
abbrev stuck_reply : (B : Type 0) → Reply B
stuck_reply B = Halts Stuck

told_stuck : {B : Type 0} (next : RefValue → Reply B) (answer : Answer) → then_on (told answer) (λ (other : Option Value). stuck_reply B) ≡ then_on (then_on (told answer) (λ (other : Option Value). stuck_reply RefValue)) next
told_stuck next (Given value) = refl
told_stuck next Done = refl
told_stuck next (Thrown reference) = refl

object_then : {B : Type 0} (value : Value) (next : RefValue → Reply B) → with_object value next ≡ then_on (with_object value (λ reference. Gives reference)) next
object_then (Int number) next = refl
object_then (Long number) next = refl
object_then Null next = λ i. Asks (Trap (codes "java/lang/NullPointerException")) (λ answer. told_stuck next answer i)
object_then (Ref reference) next = refl

-- the reference comes first
object_first : {S B : Type 0} (headers : List Header) (value : Value) (next : RefValue → Reply B) (state : State S)
    → outside headers (with_object value next) state ≡ bind (outside headers (with_object value (λ reference. Gives reference)) state) (λ reference after. outside headers (next reference) after)
object_first headers value next state = ap (λ reply. outside headers reply state) (object_then value next) ∙ outside-then headers (with_object value (λ reference. Gives reference)) next state

module _ (context : Context) (value : Value) (old new : State Store) where
  abbrev asked : Outcome Store RefValue
  asked = outside context.headers (with_object value (λ reference. Gives reference)) old

  abbrev behind : RefValue → Meaning Completion
  behind reference = outside context.headers (Halts (if is_throwable context.headers reference then Throws reference else Stuck))

  thrown_first : thrown context value old ≡ bind asked behind
  thrown_first = object_first context.headers value (λ reference. Halts (if is_throwable context.headers reference then Throws reference else Stuck)) old

  pub thrown_stops : (stop : code_stop.Stop) → Ends view_reference (Err stop) new asked → Ends view_completion (Err stop) new (thrown context value old)
  thrown_stops stop ends = subst (λ (run : Outcome Store Completion). Ends view_completion (Err stop) new run) (sym thrown_first) (stops_bind view_reference view_completion stop new asked behind ends)

  pub thrown_is : (reference : RefValue) (test : Bool) (why : outcomes.Stop) → asked ≡ Is reference new → test ≡ is_throwable context.headers reference → (if test then Throws reference else Stuck) ≡ why → thrown context value old ≡ Stops why new
  thrown_is reference test why is so which =
      thrown_first ∙ ap (λ run. bind run behind) is ∙ ap (λ answer. Stops (if answer then Throws reference else Stuck) new) (sym so) ∙ ap (λ it. Stops it new) which
