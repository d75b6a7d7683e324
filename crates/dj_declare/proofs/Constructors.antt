-- The body of a constructor is typed, and shows what its tree shows.
use Rattle.std.proofs.Common.{ℕ, ◌+◌, ◌≤◌, Bool, true, false, not, List, [], ◌∷◌, Option, Some, None, ◌≡◌, refl, sym, ap, ◌∙◌, subst, ◌&&◌, ◌||◌}
use Rattle.std.specs.Prelude.{is_some, length, if◌then◌else◌}
use Rattle.std.proofs.lemmas.Bool.{and_from, false≢true}
use Rattle.std.proofs.lemmas.List.{take_all}
use Rattle.dj_names.specs.MethodNames.{is_constructor}
use Rattle.dj_names.specs.Types.{JType, parameters_of, result_of}
use Rattle.dj_syntax.specs.declared.variable.Var.{Var}
use Rattle.dj_syntax.specs.Trees.{Exps, Construct, Stms, Empty, And, Body}
use Rattle.dj_syntax.specs.Weight.{weight_of}
use Rattle.dj_syntax.specs.UnitText.{is_initialiser}
use Rattle.dj_values.specs.Values.{Value, Answer}
use Rattle.dj_values.specs.Fits.{is_static, behind_this}
use Rattle.dj_values.specs.Outcomes.{State, Outcome, Is, Stops, bind, shown}
use Rattle.dj_meaning.specs.StaticTypes.{Context, Scope, is_same_variable, with_type}
use Rattle.dj_meaning.specs.Runs.{Store, Meaning, pure, ◌>>=◌, with_value, with_store, map_state}
use Rattle.dj_meaning.specs.Completions.{Completion, Normal, Break, Continue, Return, Misfit, sequence}
use Rattle.dj_meaning.specs.Variables.{EachInExps}
use Rattle.dj_meaning.specs.Statements.{First}
use Rattle.dj_meaning.specs.Meaning.{run, run_all, run_statements, of_parameter, ended, context_of, entered}
use Rattle.dj_meaning.proofs.Natural.{natural-statements}
use Rattle.dj_places.specs.Constants.{Surroundings}
use Rattle.dj_places.specs.Surroundings.{around_body}
use Rattle.dj_places.specs.Rules.{Holds}
use Rattle.dj_reach.specs.Reach.{list_completes}
use Rattle.dj_reach.specs.Bodies.{site_of}
use Rattle.dj_thrown.specs.Bodies.{scope_in}
use Rattle.dj_variables.specs.Sets.{everything}
use Rattle.dj_conditions.specs.Conditions.{after_each}
use Rattle.dj_typing.specs.Sites.{Site}
use Rattle.dj_typing.specs.Expressions.{exps_types}
use Rattle.dj_typed.specs.Bodies.{site_in, around_in}
use Rattle.dj_typed.specs.Statements.{without_this, list_types}
use Rattle.dj_declare.specs.Lawful.{all_lawful}
use Rattle.dj_declare.specs.Laws.{running_in}
use Rattle.dj_declare.specs.Heads.{Head, headed, behind_heads, CanStand, begun, started, Begins, Start, seen}
use Rattle.dj_declare.specs.Declared.{left_out}
use Rattle.dj_declare.specs.Constructors.{made_constructor, ConstructorIsTyped, constructor_show, ConstructorShows}
use Rattle.dj_held.proofs.AssignedSets.{Inside, inside_same, all_reads_more, all_grown}
use Rattle.dj_declare.proofs.Reaching.{list_reach_on}
use Rattle.dj_formed.proofs.Moved.{all_moved}
use Rattle.dj_declare.proofs.Typing.{list_types_on}
use Rattle.dj_declare.proofs.Reading.{list_reads_on}
use Rattle.dj_declare.proofs.Running.{list_runs_on}
use Rattle.dj_declare.proofs.Heads.{heads_reach, heads_types, heads_reads, heads_run}
use Rattle.dj_declare.proofs.Ends.{left_types, left_reach, left_reads, left_runs, shown_seen}
use Rattle.dj_declare.proofs.Named.{other_than, exps_named}

or_so : (a : Bool) → (a || true) ≡ true
or_so true = refl
or_so false = refl

no_result : (result : Option JType) (completes : Bool) → result ≡ None → (not (is_some result) || not completes) ≡ true
no_result result completes none = ap (λ result. not (is_some result) || not completes) none

pub constructor_typed : ConstructorIsTyped
constructor_typed headers members method writing own arguments heads rest right may none initialiser call can formed ordered thrown =
    let known : Surroundings = around_body headers members method in
    let scope : Scope = behind_heads heads (scope_in method) in
    let list : Stms = left_out None (all_lawful known rest) in
    record {
      writing = writing;
      right = right;
      holds = (
        (
          may,
          (
            or_so (not (is_constructor method.name)),
            (
              (call.0, all_moved (without_this (site_in writing headers members method)) (scope_in method) 0 1 arguments call.1.0),
              heads_types (around_in writing headers members method) (scope_in method) (weight_of (Construct own arguments)) heads list can (λ q.
                  left_types (around_in writing headers members method) scope q None (all_lawful known rest) (list_types_on known (around_in writing headers members method) scope 0 q rest formed.types)),
            ),
          ),
        ),
        (
          (
            and_from (not (is_some (result_of method.descriptor)) || not (list_completes known (headed heads list))) (not (is_initialiser method.name) || list_completes known (headed heads list))
                (no_result (result_of method.descriptor) (list_completes known (headed heads list)) none) (ap (λ b. not b || list_completes known (headed heads list)) initialiser),
            (refl, (tt, heads_reach (site_of headers members method) (0 + weight_of (Construct own arguments)) heads list (λ q. left_reach (site_of headers members method) q None (all_lawful known rest) (list_reach_on (site_of headers members method) q rest ordered)))),
          ),
          (
            (
              all_reads_more known 0 1 arguments (inside_same everything) call.1.1,
              heads_reads (site_in writing headers members method) (scope_in method) (0 + weight_of (Construct own arguments)) heads list (after_each known arguments everything) can (all_grown known everything arguments) (λ b q i.
                  left_reads known b q None (all_lawful known rest)
                  (list_reads_on (site_in writing headers members method) (result_of method.descriptor) (is_constructor method.name) (not (is_initialiser method.name)) [] scope 0 0 q rest formed.types ordered i formed.reads)),
            ),
            thrown,
          ),
        ),
      );
    }

-- ---- what is shown

-- a part that does with another value of a variable what it does with its own
abbrev Steady : Meaning Completion → Var → Type 0
Steady part variable = (found : Option Value) (state : State Store) → part (with_store (with_value variable found) state) ≡ map_state (with_store (with_value variable found)) (part state)

run_alone : (now : Context) (scope : Scope) (bound : ℕ) (own : Bool) (arguments : Exps) (state : State Store) → run_statements now scope bound (And (Construct own arguments) Empty) state ≡ run now scope bound First (Construct own arguments) state
run_alone now scope bound own arguments state = go (run now scope bound First (Construct own arguments) state)
  where
    go : (outcome : Outcome Store Completion) → bind outcome (sequence (pure Normal)) ≡ outcome
    go (Is Normal state) = refl
    go (Is (Break label) state) = refl
    go (Is (Continue label) state) = refl
    go (Is (Return result) state) = refl
    go (Is Misfit state) = refl
    go (Stops why state) = refl

call_steady : (now : Context) (scope : Scope) (bound : ℕ) (own : Bool) (arguments : Exps) (variable : Var) → EachInExps (λ other. is_same_variable other variable ≡ false) arguments → Steady (run now scope bound First (Construct own arguments)) variable
call_steady now scope bound own arguments variable others found state =
    sym (run_alone now scope bound own arguments (with_store (with_value variable found) state))
    ∙ (natural-statements variable found now scope bound (And (Construct own arguments) Empty) (others, tt)).natural state
    ∙ ap (map_state (with_store (with_value variable found))) (run_alone now scope bound own arguments state)

begun_mapped : (variable : Var) (one : Value) (outcome : Outcome Store Completion) → map_state (with_store (with_value variable (Some one))) (map_state (with_store (with_value variable None)) outcome) ≡ map_state (begun variable one) outcome
begun_mapped variable one (Is result state) = refl
begun_mapped variable one (Stops why state) = refl

mapped_twice : (first second : State Store → State Store) (outcome : Outcome Store Completion) → map_state second (map_state first outcome) ≡ map_state (λ state. second (first state)) outcome
mapped_twice first second (Is result state) = refl
mapped_twice first second (Stops why state) = refl

mapped_not : (outcome : Outcome Store Completion) → map_state (λ state. state) outcome ≡ outcome
mapped_not (Is result state) = refl
mapped_not (Stops why state) = refl

-- each of these is out of a scope
abbrev AreOutside : Scope → List Head → Type 0
AreOutside scope [] = Unit {0}
AreOutside scope (first ∷ rest) = (is_some (scope first.variable) ≡ false) × AreOutside scope rest

-- a scope that has less
outside_of : (now : Context) (scope inner : Scope) (heads : List Head) (given : List Value) (state : State Store) → ((variable : Var) → is_some (inner variable) ≡ false → is_some (scope variable) ≡ false) → Start now inner heads given state → AreOutside scope heads
outside_of now scope inner [] given state less s = tt
outside_of now scope inner (first ∷ rest) [] state less s = absurd s
outside_of now scope inner (first ∷ rest) (one ∷ given) state less s =
    (less first.variable s.0.is_new, outside_of now scope (with_type first.variable first.type inner) rest given (begun first.variable one state) (λ variable e. less variable (go (is_same_variable variable first.variable) variable e)) s.1)
  where
    go : (same : Bool) (variable : Var) → is_some (if same then Some first.type else inner variable) ≡ false → is_some (inner variable) ≡ false
    go true variable e = absurd (false≢true (sym e))
    go false variable e = e

started_steady : (part : Meaning Completion) (scope : Scope) (heads : List Head) (given : List Value) → ((variable : Var) → is_some (scope variable) ≡ false → Steady part variable) → AreOutside scope heads
    → (state : State Store) → part (started heads given state) ≡ map_state (started heads given) (part state)
started_steady part scope [] given is out state = sym (mapped_not (part state))
started_steady part scope (first ∷ rest) [] is out state = sym (mapped_not (part state))
started_steady part scope (first ∷ rest) (one ∷ given) is out state =
    started_steady part scope rest given is out.1 (begun first.variable one state)
    ∙ ap (map_state (started rest given)) (is first.variable out.0 (Some one) (with_store (with_value first.variable None) state)
    ∙ ap (map_state (with_store (with_value first.variable (Some one)))) (is first.variable out.0 None state) ∙ begun_mapped first.variable one (part state))
    ∙ mapped_twice (begun first.variable one) (started rest given) (part state)

seen_begun : {A : Type 0} (variable : Var) (one : Value) (heads : List Head) (given : List Value) (outcome : Outcome Store A) → ((outcome : Outcome Store A) → seen outcome ≡ seen (map_state (started heads given) outcome))
    → seen outcome ≡ seen (map_state (λ state. started heads given (begun variable one state)) outcome)
seen_begun variable one heads given (Is result state) later = later (Is result (begun variable one state))
seen_begun variable one heads given (Stops why state) later = later (Stops why (begun variable one state))

-- values of variables aren't seen
seen_started : {A : Type 0} (outcome : Outcome Store A) (heads : List Head) (given : List Value) → seen outcome ≡ seen (map_state (started heads given) outcome)
seen_started (Is result state) [] given = refl
seen_started (Stops why state) [] given = refl
seen_started (Is result state) (first ∷ rest) [] = refl
seen_started (Stops why state) (first ∷ rest) [] = refl
seen_started outcome (first ∷ rest) (one ∷ given) = seen_begun first.variable one rest given outcome (λ later. seen_started later rest given)

then_ended : (result : Option JType) (one other : Meaning Completion) (outcome : Outcome Store Completion) → (one >>= ended result) ≡ (other >>= ended result) → bind (bind outcome (sequence one)) (ended result) ≡ bind (bind outcome (sequence other)) (ended result)
then_ended result one other (Is Normal state) e = ap (λ part. part state) e
then_ended result one other (Is (Break label) state) e = refl
then_ended result one other (Is (Continue label) state) e = refl
then_ended result one other (Is (Return value) state) e = refl
then_ended result one other (Is Misfit state) e = refl
then_ended result one other (Stops why state) e = refl

ends_none : (now : Context) (scope : Scope) (bound : ℕ) (list : Stms) → now.result ≡ None → (run_all now scope bound (left_out None list) >>= ended None) ≡ (run_all now scope bound list >>= ended None)
ends_none now scope bound list none = subst (λ result. (run_all now scope bound (left_out None list) >>= ended result) ≡ (run_all now scope bound list >>= ended result)) none (left_runs now scope bound None list none)

-- behind the call the heads give their values, or they did before it
behind_call : (outcome : Outcome Store Completion) (heads : List Head) (given : List Value) (one other : Meaning Completion) → ((state : State Store) → outcome ≡ Is Normal state → seen (one state) ≡ seen (other (started heads given state)))
    → seen (bind outcome (sequence one)) ≡ seen (bind (map_state (started heads given) outcome) (sequence other))
behind_call (Is Normal state) heads given one other same = same state refl
behind_call (Is (Break label) state) heads given one other same = seen_started (Is (Break label) state) heads given
behind_call (Is (Continue label) state) heads given one other same = seen_started (Is (Continue label) state) heads given
behind_call (Is (Return result) state) heads given one other same = seen_started (Is (Return result) state) heads given
behind_call (Is Misfit state) heads given one other same = seen_started (Is Misfit state) heads given
behind_call (Stops why state) heads given one other same = seen_started (Stops why state) heads given

pub constructor_shows : ConstructorShows
constructor_shows headers wider members method writing own arguments heads given rest values answers bound order few none call can formed start =
    let known : Surroundings = around_body headers members method in
    let result : Option JType = result_of method.descriptor in
    let parameters : Scope = of_parameter (parameters_of method.descriptor) in
    let scope : Scope = behind_heads heads parameters in
    let now : Context = context_of wider members method values in
    let state : State Store = entered (behind_this (is_static method.flags) values) answers in
    let list : Stms = left_out None (all_lawful known rest) in
    let part : Meaning Completion = run now parameters bound First (Construct own arguments) in
    let same : scope_in method ≡ parameters = ap of_parameter (take_all 4294967295 (parameters_of method.descriptor) few) in
    let types : Holds (list_types (around_in writing headers members method) scope 0 rest) =
    subst (λ scope. Holds (list_types (around_in writing headers members method) (behind_heads heads scope) 0 rest)) same formed.types in
    let arguments_typed : Holds (exps_types (without_this (site_in writing headers members method)) parameters 0 arguments) =
    subst (λ scope. Holds (exps_types (without_this (site_in writing headers members method)) scope 0 arguments)) same call.1.0 in
    let out : AreOutside parameters heads = outside_of now parameters parameters heads given state (λ variable e. e) start.first in
    let steady : part (started heads given state) ≡ map_state (started heads given) (part state) =
    started_steady part parameters heads given (λ variable outside. call_steady now parameters bound own arguments variable
    (exps_named (λ other. is_same_variable other variable ≡ false) (without_this (site_in writing headers members method)) parameters (λ other there. other_than parameters variable other outside there) 0 arguments arguments_typed)) out state in
    sym (shown_seen result (bind (part state) (sequence (run_all now parameters bound (headed heads list)))))
    ∙ ap (λ outcome. shown (bind outcome (ended result)))
    (behind_call (part state) heads given (run_all now parameters bound (headed heads list)) (run_all now scope bound list) (λ later e. heads_run now bound parameters heads given list later (start.later later e)))
    ∙ shown_seen result (bind (map_state (started heads given) (part state)) (sequence (run_all now scope bound list)))
    ∙ ap (λ outcome. shown (bind (bind outcome (sequence (run_all now scope bound list))) (ended result))) (sym steady)
    ∙ ap shown (then_ended result (run_all now scope bound list) (run_all now scope bound (all_lawful known rest)) (part (started heads given state))
    (subst (λ result. (run_all now scope bound list >>= ended result) ≡ (run_all now scope bound (all_lawful known rest) >>= ended result)) (sym none)
    (ends_none now scope bound (all_lawful known rest) none)))
    ∙ ap (λ later. shown (bind (bind (part (started heads given state)) (sequence later)) (ended result)))
    (list_runs_on (running_in wider now.this (around_in writing headers members method)) order bound scope [] 0 rest (pure Normal) types)
