-- A typed body never goes wrong.
use Rattle.std.proofs.Common.{ℕ, zero, suc, Bool, true, false, not, ◌||◌, List, [], ◌∷◌, Option, Some, None, IsSome, IsSomeAnd, ◌≡◌, refl, sym, subst}
use Rattle.std.specs.Prelude.{is_some, slice_get}
use Rattle.std.proofs.lemmas.Bool.{and_parts, false≢true, not-true}
use Rattle.std.proofs.lemmas.List.{take_all}
use Rattle.dj_names.specs.declared.header.Header.{Header}
use Rattle.dj_names.specs.MethodNames.{is_constructor}
use Rattle.dj_names.specs.Types.{JType, Class, parameters_of, result_of}
use Rattle.dj_syntax.specs.declared.variable.VarKind.{VarKind}
use Rattle.dj_syntax.specs.declared.variable.VarKind.TheVariants as kind
use Rattle.dj_syntax.specs.UnitText.{is_initialiser}
use Rattle.dj_values.specs.Values.{Value, Int, Long, Null, Ref, Answer}
use Rattle.dj_values.specs.Fits.{is_static, this_of, behind_this, IsThis, AreValuesOf, AreArguments}
use Rattle.dj_values.specs.Outcomes.{Throws, More, Stuck, State, Outcome, Is, Stops}
use Rattle.dj_values.specs.Outcomes as outcomes
use Rattle.dj_meaning.specs.StaticTypes.{Scope}
use Rattle.dj_meaning.specs.Runs.{Store}
use Rattle.dj_meaning.specs.Completions.{Completion, Normal, Break, Continue, Return, Misfit}
use Rattle.dj_meaning.specs.Meaning.{run_statements, ended, of_parameter, context_of, entered}
use Rattle.dj_meaning.specs.Preserving.{IsFree}
use Rattle.dj_places.specs.Surroundings.{around_body}
use Rattle.dj_places.specs.Rules.{Holds}
use Rattle.dj_reach.specs.Reach.{list_completes}
use Rattle.dj_variables.specs.Sets.{everything}
use Rattle.dj_typing.specs.Sites.{is_whole}
use Rattle.dj_typed.specs.Statements.{all_types}
use Rattle.dj_typed.specs.Bodies.{site_in, around_in}
use Rattle.dj_held.specs.Values.{IsHeld}
use Rattle.dj_held.specs.Replies.{EndsSo}
use Rattle.dj_held.specs.Running.{Running, HasThis, IsInOrder}
use Rattle.dj_held.specs.Reaching.{Matches, Reaches, Leaves}
use Rattle.dj_held.proofs.Goes.{fits_held, fits_object}
use Rattle.dj_never_stuck.specs.NeverStuck.{TypedIsNeverStuck}
use Rattle.dj_never_stuck.specs.Ways.{Flow, Completes}
use Rattle.dj_never_stuck.specs.Flows.{list_flow}
use Rattle.dj_never_stuck.proofs.Statements.{apart_from_this, statements_run}

-- ---- arguments

module _ (headers : List Header) where
  arguments_match : (types : List JType) (values : List Value) (number : ℕ) → AreValuesOf headers types values → Matches headers (slice_get types number) (slice_get values number)
  arguments_match [] [] number fit = tt
  arguments_match [] (value ∷ values) number fit = absurd fit
  arguments_match (type ∷ types) [] number fit = absurd fit
  arguments_match (type ∷ types) (value ∷ values) zero fit = fits_held headers type value fit.0
  arguments_match (type ∷ types) (value ∷ values) (suc number) fit = arguments_match types values number fit.1

  arguments_full : (types : List JType) (values : List Value) (number : ℕ) → AreValuesOf headers types values → IsSome (slice_get types number) → IsSome (slice_get values number)
  arguments_full [] values number fit is = absurd (false≢true is)
  arguments_full (type ∷ types) [] number fit is = absurd fit
  arguments_full (type ∷ types) (value ∷ values) zero fit is = refl
  arguments_full (type ∷ types) (value ∷ values) (suc number) fit is = arguments_full types values number fit.1 is

  parameters_match : (types : List JType) (values : List Value) → AreValuesOf headers types values → (of : VarKind) (number : ℕ)
      → Matches headers (of_parameter types (record { kind = of; number = number })) (of_parameter values (record { kind = of; number = number }))
  parameters_match types values fit kind.Param number = arguments_match types values number fit
  parameters_match types values fit kind.Local number = tt
  parameters_match types values fit kind.Caught number = tt
  parameters_match types values fit kind.State number = tt

  parameters_full : (types : List JType) (values : List Value) → AreValuesOf headers types values → (of : VarKind) (number : ℕ)
      → IsSome (of_parameter types (record { kind = of; number = number })) → IsSome (of_parameter values (record { kind = of; number = number }))
  parameters_full types values fit kind.Param number is = arguments_full types values number fit is
  parameters_full types values fit kind.Local number is = absurd (false≢true is)
  parameters_full types values fit kind.Caught number is = absurd (false≢true is)
  parameters_full types values fit kind.State number is = absurd (false≢true is)

  -- as a body begins, its parameters have their arguments
  begins : (types : List JType) (values : List Value) (answers : List Answer) → AreValuesOf headers types values → Reaches headers (of_parameter types) everything (entered values answers) (entered values answers)
  begins types values answers fit = record {
    types = λ x. parameters_match types values fit x.kind x.number;
    values = λ x h is. parameters_full types values fit x.kind x.number is;
    keeps = λ x h. h;
  }

values_of : (headers : List Header) (class : List ℕ) (static : Bool) (types : List JType) (arguments : List Value) → AreArguments headers class static types arguments → AreValuesOf headers types (behind_this static arguments)
values_of headers class true types arguments fit = fit
values_of headers class false types [] fit = absurd fit
values_of headers class false types (first ∷ rest) fit = fit.1

this_held : (headers : List Header) (class : List ℕ) (first : Value) → IsThis headers class first → IsHeld headers (Class class) first
this_held headers class (Int number) is = absurd is
this_held headers class (Long number) is = absurd is
this_held headers class Null is = absurd is
this_held headers class (Ref reference) is = fits_object headers (Class class) reference is

this_there : (headers : List Header) (class : List ℕ) (static : Bool) (types : List JType) (arguments : List Value) → AreArguments headers class static types arguments → static ≡ false → IsSomeAnd (this_of static arguments) (IsHeld headers (Class class))
this_there headers class true types arguments fit is = absurd (false≢true (sym is))
this_there headers class false types [] fit is = absurd fit
this_there headers class false types (first ∷ rest) fit is = this_held headers class first fit.0

-- ---- how a body ends

ends_free : (headers : List Header) (result : Option JType) (scope : Scope) (f : Flow) (z : State Store) (o : Outcome Store Completion) → (not (is_some result) || not f.completes) ≡ true
    → EndsSo (Completes headers result [] scope f z) (Leaves headers scope z) o → IsFree (outcomes.bind o (ended result))
ends_free headers None scope f z (Is Normal state) e m = tt
ends_free headers (Some type) scope f z (Is Normal state) e m = false≢true (subst (λ b. not b ≡ true) m.possible e)
ends_free headers result scope f z (Is (Break label) state) e m = absurd (false≢true m.lands)
ends_free headers result scope f z (Is (Continue label) state) e m = absurd (false≢true m.lands)
ends_free headers result scope f z (Is (Return value) state) e m = tt
ends_free headers result scope f z (Is Misfit state) e m = absurd m.possible
ends_free headers result scope f z (Stops (Throws reference) state) e m = tt
ends_free headers result scope f z (Stops More state) e m = tt
ends_free headers result scope f z (Stops Stuck state) e m = absurd m

-- ---- the theorem

-- no run of a typed body is stuck
pub typed_is_never_stuck : TypedIsNeverStuck
typed_is_never_stuck world headers members body wide lawful method typed arguments fit answers bound =
    let parameters : List JType = parameters_of body.descriptor in
    let values : List Value = behind_this (is_static body.flags) arguments in
    let begun : State Store = entered values answers in
    let running : Running = record {
      site = site_in typed.writing world members body;
      headers = headers;
      result = result_of body.descriptor;
      this = this_of (is_static body.flags) arguments;
      constructs = is_constructor body.name;
    } in
    let whole : is_whole world body.class ≡ true = (and_parts (typed.writing.can_say body.class) (is_whole world body.class) typed.holds.0.0).1 in
    let there : is_static body.flags ≡ false → HasThis running = this_there headers body.class (is_static body.flags) parameters arguments fit in
    let order : IsInOrder running = record { widens = wide; whole = whole; members = lawful; this = λ has. there (not-true (is_static body.flags) has); constructs = λ is. there (method.constructor is) } in
    let apart : IsInOrder (apart_from_this running) = record { widens = wide; whole = whole; members = lawful; this = λ has. absurd (false≢true has); constructs = λ is. there (method.constructor is) } in
    let begins_so : Reaches headers (of_parameter parameters) everything begun begun = begins headers parameters values answers (values_of headers body.class (is_static body.flags) parameters arguments fit) in
    let ends_so : (not (is_some (result_of body.descriptor)) || not (list_completes (around_body world members body) body.statements)) ≡ true =
    (and_parts (not (is_some (result_of body.descriptor)) || not (list_completes (around_body world members body) body.statements)) (not (is_initialiser body.name) || list_completes (around_body world members body) body.statements) typed.holds.1.0.0).0 in
    ends_free headers (result_of body.descriptor) (of_parameter parameters) (list_flow (around_body world members body) body.statements everything) begun
    (run_statements (context_of headers members body arguments) (of_parameter parameters) bound body.statements begun) ends_so
    (statements_run running order apart bound (of_parameter parameters) begun begun everything body.statements
    (subst (λ list. Holds (all_types (around_in typed.writing world members body) (of_parameter list) body.statements)) (take_all 4294967295 parameters method.parameters) typed.holds.0.1.1)
    typed.holds.1.1.0 begins_so).so
