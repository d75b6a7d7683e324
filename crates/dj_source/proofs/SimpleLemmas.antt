-- Stores, returns and calls of constructors, by their parts.
use Rattle.std.proofs.Common.{◌≡◌, Option, Some, None, sym, ap, ◌∙◌, subst}
use Rattle.std.specs.Prelude.{Err, option_map}
use Rattle.dj_names.specs.Types.{JType}
use Rattle.dj_values.specs.Values.{Value}
use Rattle.dj_values.specs.Views.{view_value}
use Rattle.dj_values.specs.Outcomes.{Reply, State, Outcome, Is, bind, outside}
use Rattle.dj_meaning.specs.StaticTypes.{Context}
use Rattle.dj_meaning.specs.Runs.{Store, Meaning, ◌>>=◌, pure, fitted}
use Rattle.dj_meaning.specs.Completions.{Completion, Normal, Return, Misfit, returns_value}
use Rattle.dj_meaning.specs.Statements.{does}
use Rattle.dj_outside.specs.declared.stop.Stop as code_stop
use Rattle.dj_outside.specs.Runs.{Ends}
use Rattle.dj_objects.proofs.Binding.{bind-bind, stops_bind}
use Rattle.dj_evaluating.proofs.PartLemmas.{then_ends, then_stops}
use Rattle.dj_source.specs.Running.{view_completion}

-- ---- a part, and nothing more

pub normal_stops : {A B : Type 0} (view : A → B) (part : Meaning B) (old new : State Store) (stop : code_stop.Stop) → Ends view (Err stop) new (part old) → Ends view_completion (Err stop) new ((part >>= λ done. pure Normal) old)
normal_stops view part old new stop ends = then_stops view view_completion part (λ done. pure Normal) old new stop ends

pub normal_is : {B : Type 0} (part : Meaning B) (value : B) (old new : State Store) → part old ≡ Is value new → (part >>= λ done. pure Normal) old ≡ Is Normal new
normal_is part value old new is = ap (λ run. bind run (λ done. pure Normal)) is

-- ---- a value that is stored

-- a value, and then what it is stored by
abbrev pub stores : Context → Meaning Value → (Value → Reply (Option Value)) → Meaning Completion
stores context part reply = part >>= λ kept. does context (reply kept)

module _ (context : Context) (part : Meaning Value) (reply : Value → Reply (Option Value)) (old middle : State Store) where
  pub stores_no_value : (stop : code_stop.Stop) → Ends view_value (Err stop) middle (part old) → Ends view_completion (Err stop) middle (stores context part reply old)
  stores_no_value stop ends = then_stops view_value view_completion part (λ kept. does context (reply kept)) old middle stop ends

  module _ (kept : Value) (is : part old ≡ Is kept middle) (given : Reply (Option Value)) (same : given ≡ reply kept) (new : State Store) where
    pub stores_stops : (stop : code_stop.Stop) → Ends (option_map view_value) (Err stop) new (outside context.headers given middle) → Ends view_completion (Err stop) new (stores context part reply old)
    stores_stops stop ends =
        then_ends view_value view_completion part (λ one. does context (reply one)) old middle (Err stop) new kept is
        (normal_stops (option_map view_value) (outside context.headers (reply kept)) middle new stop (subst (λ one. Ends (option_map view_value) (Err stop) new (outside context.headers one middle)) same ends))

    pub stores_done : (dropped : Option Value) → outside context.headers given middle ≡ Is dropped new → stores context part reply old ≡ Is Normal new
    stores_done dropped ends =
        ap (λ run. bind run (λ one. does context (reply one))) is
        ∙ normal_is (outside context.headers (reply kept)) dropped middle new (ap (λ one. outside context.headers one middle) (sym same) ∙ ends)

-- ---- returns (14.17)

module _ (context : Context) (part : Meaning Value) (old middle : State Store) where
  pub return_stops : (result : Option JType) (stop : code_stop.Stop) → Ends view_value (Err stop) middle (part old) → Ends view_completion (Err stop) middle ((part >>= returns_value context result) old)
  return_stops result stop ends = then_stops view_value view_completion part (returns_value context result) old middle stop ends

  pub return_misfit : (result : Option JType) (value : Value) → result ≡ None → part old ≡ Is value middle → (part >>= returns_value context result) old ≡ Is Misfit middle
  return_misfit result value none is = ap (λ run. bind run (returns_value context result)) is ∙ ap (λ wanted. returns_value context wanted value middle) none

  module _ (result : Option JType) (type : JType) (some : result ≡ Some type) where
    return_value : (part >>= returns_value context result) old ≡ bind ((part >>= fitted context.headers type) old) (λ kept. pure (Return (Some kept)))
    return_value =
        ap (λ wanted. bind (part old) (returns_value context wanted)) some
        ∙ sym (bind-bind (part old) (fitted context.headers type) (λ kept. pure (Return (Some kept))))

    pub return_no_value : (stop : code_stop.Stop) → Ends view_value (Err stop) middle ((part >>= fitted context.headers type) old) → Ends view_completion (Err stop) middle ((part >>= returns_value context result) old)
    return_no_value stop ends =
        subst (λ (run : Outcome Store Completion). Ends view_completion (Err stop) middle run) (sym return_value)
        (stops_bind view_value view_completion stop middle ((part >>= fitted context.headers type) old) (λ kept. pure (Return (Some kept))) ends)

    pub return_is : (value : Value) → (part >>= fitted context.headers type) old ≡ Is value middle → (part >>= returns_value context result) old ≡ Is (Return (Some value)) middle
    return_is value is = return_value ∙ ap (λ run. bind run (λ kept. pure (Return (Some kept)))) is
