-- Groups of a switch and catch clauses, of which some are passed.
use Rattle.std.proofs.Common.{◌≡◌, ℕ, ℤ, ◌+◌, ◌<◌, ◌≤◌, Bool, true, false, List, length, drop, get_or, Option, Some, None, refl, sym, ap, ◌∙◌}
use Rattle.std.specs.Prelude.{◌||◌, Ok, Err, IfSome, if◌then◌else◌}
use Rattle.std.proofs.lemmas.List.{drop_all}
use Rattle.dj_names.specs.Types.{Class}
use Rattle.dj_syntax.specs.declared.statement.Group as code_group
use Rattle.dj_syntax.specs.declared.statement.Catch as code_catch
use Rattle.dj_syntax.proofs.TreeLists.{groups_from, catches_from}
use Rattle.dj_syntax.specs.Trees.{Stms, Groups, NoGroups, AndGroup, view_stms, view_groups, view_catches}
use Rattle.dj_values.specs.Values.{RefValue}
use Rattle.dj_values.specs.Deciding.{is_instance}
use Rattle.dj_values.specs.Outcomes as outcomes
use Rattle.dj_values.specs.Outcomes.{Throws, State, Outcome, Is, Stops}
use Rattle.dj_meaning.specs.StaticTypes.{Context, Scope, with_type}
use Rattle.dj_meaning.specs.Runs.{Store, Meaning, pure, stop}
use Rattle.dj_meaning.specs.Expressions.{either}
use Rattle.dj_meaning.specs.Completions.{Completion, Normal, sequence}
use Rattle.dj_meaning.specs.Declarations.{behind, caught, passed}
use Rattle.dj_meaning.specs.Statements.{has_label, is_labelled}
use Rattle.dj_meaning.specs.Meaning.{run_then, run_groups, run_from, run_all, run_clauses}
use Rattle.dj_source.specs.declared.scopes.KeptValue.{KeptValue}
use Rattle.dj_source.specs.Keeping.{back}
use Rattle.dj_outside.specs.declared.stop.Stop as code_stop
use Rattle.dj_outside.specs.Runs.{stop_of}
use Rattle.dj_source.specs.declared.completion.Completion as code_completion
use Rattle.dj_source.specs.declared.completion.Completion.TheVariants as completions
use Rattle.dj_source.specs.Running.{Opens, view_completion}
use Rattle.dj_source.proofs.ListLemmas.{passed_over}

-- ---- groups

-- the groups from one on, of which a first one with the label was found or not
abbrev pub going : Bool → Context → Scope → ℕ → Option ℤ → Groups → Meaning Completion
going true context scope bound wanted groups = run_groups context scope bound groups
going false context scope bound wanted groups = run_from context scope bound groups wanted

going_none : (found : Bool) (context : Context) (scope : Scope) (bound : ℕ) (wanted : Option ℤ) → going found context scope bound wanted NoGroups ≡ pure Normal
going_none true context scope bound wanted = refl
going_none false context scope bound wanted = refl

going_more : (found : Bool) (context : Context) (scope : Scope) (bound : ℕ) (wanted : Option ℤ) (labels : List (Option ℤ)) (body : Stms) (rest : Groups)
    → going found context scope bound wanted (AndGroup labels body rest)
    ≡ (if found || has_label wanted labels then run_then context scope bound body (going true context (behind body scope) bound wanted rest) else passed scope body (going false context (behind body scope) bound wanted rest))
going_more true context scope bound wanted labels body rest = refl
going_more false context scope bound wanted labels body rest = refl

module _ (context : Context) (bound : ℕ) (wanted : Option ℤ) (groups : List code_group.Group) (k : ℕ) (found : Bool) (kept : List KeptValue) (scope : Scope) (state : State Store) where
  -- what is left of the groups
  abbrev pub rest_of : Outcome Store Completion
  rest_of = back kept (going found context scope bound wanted (view_groups (drop k groups)) state)

  pub left_all : length groups ≤ k → rest_of ≡ back kept (sequence (pure Normal) Normal state)
  left_all past = ap (λ list. back kept (going found context scope bound wanted (view_groups list) state)) (drop_all k groups past) ∙ ap (λ part. back kept (part state)) (going_none found context scope bound wanted)

  module _ (group : code_group.Group) (within : k < length groups) (is : group ≡ get_or groups k group) where
    left_one : (now : Bool) → now ≡ (found || has_label wanted group.labels)
        → rest_of ≡ back kept ((if now then run_then context scope bound (view_stms group.body) (going true context (behind (view_stms group.body) scope) bound wanted (view_groups (drop (k + 1) groups)))
        else passed scope (view_stms group.body) (going false context (behind (view_stms group.body) scope) bound wanted (view_groups (drop (k + 1) groups)))) state)
    left_one now so =
        ap (λ list. back kept (going found context scope bound wanted list state)) (groups_from groups k group within is)
        ∙ ap (λ part. back kept (part state)) (going_more found context scope bound wanted group.labels (view_stms group.body) (view_groups (drop (k + 1) groups)))
        ∙ ap (λ test. back kept ((if test then run_then context scope bound (view_stms group.body) (going true context (behind (view_stms group.body) scope) bound wanted (view_groups (drop (k + 1) groups)))
        else passed scope (view_stms group.body) (going false context (behind (view_stms group.body) scope) bound wanted (view_groups (drop (k + 1) groups)))) state)) (sym so)

    module _ (now : Bool) (so : now ≡ (found || has_label wanted group.labels)) where
      -- the groups behind this one
      abbrev going_on : Meaning Completion
      going_on = going now context (behind (view_stms group.body) scope) bound wanted (view_groups (drop (k + 1) groups))

      -- this group, and what comes behind it
      abbrev group_and : Meaning Completion → Outcome Store Completion
      group_and next = back kept (either now (run_then context scope bound (view_stms group.body) next) (passed scope (view_stms group.body) next) state)

      left_group : rest_of ≡ group_and going_on
      left_group = of_test now so
        where
          of_test : (test : Bool) → test ≡ (found || has_label wanted group.labels)
              → rest_of ≡ back kept (either test (run_then context scope bound (view_stms group.body) (going test context (behind (view_stms group.body) scope) bound wanted (view_groups (drop (k + 1) groups))))
              (passed scope (view_stms group.body) (going test context (behind (view_stms group.body) scope) bound wanted (view_groups (drop (k + 1) groups)))) state)
          of_test true same = left_one true same
          of_test false same = left_one false same

      module _ (more : List KeptValue) where
        pub group_ran : (after : Scope) (new : State Store) (completion : code_completion.Completion) → completion ≡ completions.Normal → ((next : Meaning Completion) → Opens (Ok completion) more new next (group_and next)) → after ≡ behind (view_stms group.body) scope
            → rest_of ≡ back more (going now context after bound wanted (view_groups (drop (k + 1) groups)) new)
        group_ran after new completion normal opens same =
            left_group ∙ opens going_on ∙ ap (λ one. back more (sequence going_on (view_completion one) new)) normal
            ∙ ap (λ types. back more (going now context types bound wanted (view_groups (drop (k + 1) groups)) new)) (sym same)

        module _ (new : State Store) where
          pub group_left : (completion : code_completion.Completion) → (completion ≡ completions.Normal → ⊥) → ((next : Meaning Completion) → Opens (Ok completion) more new next (group_and next))
              → rest_of ≡ back more (sequence (pure Normal) (view_completion completion) new)
          group_left completion other opens = left_group ∙ opens going_on ∙ ap (λ part. back more (part new)) (passed_over completion going_on (pure Normal) other)

          pub group_stops : (why : code_stop.Stop) → ((next : Meaning Completion) → Opens (Err why) more new next (group_and next)) → Opens (Err why) more new (pure Normal) rest_of
          group_stops why opens = of_stop (stop_of why) (opens going_on)
            where
              of_stop : (maybe : Option outcomes.Stop) → IfSome maybe (λ it. group_and going_on ≡ back more (Stops it new)) → IfSome maybe (λ it. rest_of ≡ back more (Stops it new))
              of_stop None same = tt
              of_stop (Some it) same = left_group ∙ same

-- ---- labels

pub labelled_here : (wanted : Option ℤ) (groups : List code_group.Group) (k : ℕ) (group : code_group.Group) → k < length groups → group ≡ get_or groups k group → has_label wanted group.labels ≡ true → is_labelled wanted (view_groups (drop k groups)) ≡ true
labelled_here wanted groups k group within is has = ap (is_labelled wanted) (groups_from groups k group within is) ∙ ap (λ test. test || is_labelled wanted (view_groups (drop (k + 1) groups))) has

pub labelled_next : (wanted : Option ℤ) (groups : List code_group.Group) (k : ℕ) (group : code_group.Group) → k < length groups → group ≡ get_or groups k group → has_label wanted group.labels ≡ false
    → is_labelled wanted (view_groups (drop k groups)) ≡ is_labelled wanted (view_groups (drop (k + 1) groups))
labelled_next wanted groups k group within is lacks = ap (is_labelled wanted) (groups_from groups k group within is) ∙ ap (λ test. test || is_labelled wanted (view_groups (drop (k + 1) groups))) lacks

pub labelled_none : (wanted : Option ℤ) (groups : List code_group.Group) (k : ℕ) → length groups ≤ k → is_labelled wanted (view_groups (drop k groups)) ≡ false
labelled_none wanted groups k past = ap (λ list. is_labelled wanted (view_groups list)) (drop_all k groups past)

-- ---- catch clauses

module _ (context : Context) (scope : Scope) (bound : ℕ) (reference : RefValue) where
  abbrev pub clauses_from : List code_catch.Catch → ℕ → Meaning Completion
  clauses_from clauses k = run_clauses context scope bound (view_catches (drop k clauses)) reference

  abbrev pub taken_by : code_catch.Catch → Meaning Completion
  taken_by clause = caught scope clause.variable reference (run_all context (with_type clause.variable (Class clause.class) scope) bound (view_stms clause.body))

  clause_more : (clauses : List code_catch.Catch) (k : ℕ) (clause : code_catch.Catch) (test : Bool) → k < length clauses → clause ≡ get_or clauses k clause → is_instance context.headers reference.class clause.class ≡ test
      → clauses_from clauses k ≡ (if test then taken_by clause else clauses_from clauses (k + 1))
  clause_more clauses k clause test within is tested =
      ap (λ list. run_clauses context scope bound list reference) (catches_from clauses k clause within is)
      ∙ ap (λ answer. if answer then taken_by clause else clauses_from clauses (k + 1)) tested

  pub clause_here : (clauses : List code_catch.Catch) (k : ℕ) (clause : code_catch.Catch) → k < length clauses → clause ≡ get_or clauses k clause → is_instance context.headers reference.class clause.class ≡ true → clauses_from clauses k ≡ taken_by clause
  clause_here clauses k clause within is takes = clause_more clauses k clause true within is takes

  pub clause_next : (clauses : List code_catch.Catch) (k : ℕ) (clause : code_catch.Catch) → k < length clauses → clause ≡ get_or clauses k clause → is_instance context.headers reference.class clause.class ≡ false
      → clauses_from clauses k ≡ clauses_from clauses (k + 1)
  clause_next clauses k clause within is leaves = clause_more clauses k clause false within is leaves

  pub clause_none : (clauses : List code_catch.Catch) (k : ℕ) → length clauses ≤ k → clauses_from clauses k ≡ stop (Throws reference)
  clause_none clauses k past = ap (λ list. run_clauses context scope bound (view_catches list) reference) (drop_all k clauses past)
