-- A tree with parameters in place of their copies shows what the tree shows.
use Rattle.std.proofs.Common.{ℕ, Bool, List, Option, Some, None, ◌≡◌, refl, sym, ap, ◌∙◌}
use Rattle.dj_names.specs.declared.header.Header.{Header}
use Rattle.dj_names.specs.declared.members.ClassMembers.{ClassMembers}
use Rattle.dj_names.specs.Types.{JType, parameters_of, result_of}
use Rattle.dj_syntax.specs.declared.variable.Var.{Var}
use Rattle.dj_syntax.specs.Trees.{Exps, Construct, Stms, Body}
use Rattle.dj_values.specs.Values.{Value, Answer, Show}
use Rattle.dj_values.specs.Fits.{is_static, behind_this}
use Rattle.dj_values.specs.Outcomes.{State, Outcome, Is, Stops, bind, shown}
use Rattle.dj_meaning.specs.StaticTypes.{Context, Scope}
use Rattle.dj_meaning.specs.Runs.{Store, Meaning, ◌>>=◌}
use Rattle.dj_meaning.specs.Completions.{Completion, Normal, Break, Continue, Return, Misfit, sequence}
use Rattle.dj_meaning.specs.Statements.{First}
use Rattle.dj_meaning.specs.Meaning.{run, run_all, run_statements, ended, context_of}
use Rattle.dj_typed.specs.Statements.{Around}
use Rattle.dj_typed.specs.Bodies.{Writing, around_in}
use Rattle.dj_formed.specs.Formed.{IsFormed}
use Rattle.dj_renaming.specs.Renaming.{Names, AreApart, all_renamed}
use Rattle.dj_numbered.proofs.Showing.{renamed_shows}
use Rattle.dj_declare.proofs.Heads.{statements_as_list}
use Rattle.dj_declaring.specs.declared.entry.Entry.{Entry}
use Rattle.dj_declaring.specs.Starting.{tree_scope, first_state, IsGiven}
use Rattle.dj_declaring.specs.Returning.{opening_call, behind_call}
use Rattle.dj_declaring.specs.Declaring.{IsFormedBehind}
use Rattle.dj_declaring.proofs.Calling.{call_stays}
use Rattle.dj_declaring.proofs.DeclaredBodies.{with_call}
use Rattle.dj_parameters.specs.Parameters.{parameter_names, behind_opening}
use Rattle.dj_parameters.specs.Laws.{ShowsWithParameters}
use Rattle.dj_parameters.proofs.Exchanging.{names_apart, same_types, same_values}
use Rattle.dj_parameters.proofs.Ready.{formed_by_names}

-- what is shown behind a run, where what comes next shows the same
shown_behind : (result : Option JType) (outcome : Outcome Store Completion) (one other : Meaning Completion) → ((state : State Store) → outcome ≡ Is Normal state → shown (bind (one state) (ended result)) ≡ shown (bind (other state) (ended result)))
    → shown (bind (bind outcome (sequence one)) (ended result)) ≡ shown (bind (bind outcome (sequence other)) (ended result))
shown_behind result (Is Normal state) one other same = same state refl
shown_behind result (Is (Break label) state) one other same = refl
shown_behind result (Is (Continue label) state) one other same = refl
shown_behind result (Is (Return value) state) one other same = refl
shown_behind result (Is Misfit state) one other same = refl
shown_behind result (Stops why state) one other same = refl

module _ (headers wider : List Header) (members : List ClassMembers) (writing : Writing) (method : Body) (kinds : List JType) (entry : Entry) (tree : Stms) (arguments : List Value) (answers : List Answer) (bound : ℕ)
    (given : IsGiven wider method.class (parameters_of method.descriptor) entry (context_of wider members method arguments).this (behind_this (is_static method.flags) arguments)) where
  abbrev names : Names
  names = parameter_names (parameters_of method.descriptor) kinds entry

  apart : AreApart names
  apart = names_apart (parameters_of method.descriptor) kinds entry

  abbrev graph : Scope
  graph = tree_scope (parameters_of method.descriptor) kinds

  abbrev now : Context
  now = context_of wider members method arguments

  abbrev around : Around
  around = around_in writing headers members method

  abbrev first : State Store
  first = first_state kinds now.this (behind_this (is_static method.flags) arguments) entry answers

  agree : (variable : Var) → first.store.variables variable ≡ first.store.variables (names.variable variable)
  agree = same_values (parameters_of method.descriptor) kinds entry wider now.this (behind_this (is_static method.flags) arguments) given.fit

  -- from each state in which the variables hold what they hold at first
  shows_from : (state : State Store) → state.store.variables ≡ first.store.variables → (list : Stms)
      → shown (bind (run_statements now graph bound list state) (ended now.result)) ≡ shown (bind (run_statements now graph bound (all_renamed names list) state) (ended now.result))
  shows_from state same list =
      renamed_shows names apart now graph graph (same_types (parameters_of method.descriptor) kinds entry) bound list state state
      (record { variables = λ variable. ap (λ variables. variables variable) same ∙ agree variable ∙ sym (ap (λ variables. variables (names.variable variable)) same); held = refl; world = refl })

  -- statements that don't stand first
  shows_later : (state : State Store) → state.store.variables ≡ first.store.variables → (list : Stms) → IsFormed around graph list
      → shown (bind (run_all now graph bound (all_renamed names list) state) (ended now.result)) ≡ shown (bind (run_all now graph bound list state) (ended now.result))
  shows_later state same list formed =
      let later = formed_by_names names apart writing headers members method graph (same_types (parameters_of method.descriptor) kinds entry) list formed in
      ap (λ part. shown (bind (part state) (ended now.result))) (sym (statements_as_list around now graph graph bound 0 (all_renamed names list) later.types))
      ∙ sym (shows_from state same list)
      ∙ ap (λ part. shown (bind (part state) (ended now.result))) (statements_as_list around now graph graph bound 0 list formed.types)

  -- what a tree shows
  abbrev show_of : Stms → Show
  show_of list = shown ((run_statements now graph bound list >>= ended (result_of method.descriptor)) first)

  by_call : (call : Option (Bool × Exps)) → opening_call tree ≡ call → IsFormedBehind headers members writing method kinds tree call → show_of (behind_opening names tree call) ≡ show_of tree
  by_call None e formed = sym (shows_from first refl tree)
  by_call (Some call) e formed =
      shown_behind (result_of method.descriptor) (run now graph bound First (Construct call.0 call.1) first) (run_all now graph bound (all_renamed names (behind_call tree))) (run_all now graph bound (behind_call tree))
      (λ after ends. shows_later after (call_stays now graph bound call.0 call.1 formed.3 first after ends) (behind_call tree) formed.2)
      ∙ ap show_of (sym (with_call tree call.0 call.1 e))

pub shows_with_parameters : ShowsWithParameters
shows_with_parameters headers wider members writing method kinds entry own tree arguments answers bound ready given =
    by_call headers wider members writing method kinds entry tree arguments answers bound given (opening_call tree) refl ready.formed
