-- Statements in order, of which some are done.
use Rattle.std.proofs.Common.{◌≡◌, ℕ, ◌+◌, ◌<◌, ◌≤◌, List, [], length, drop, get_or, Option, Some, None, refl, sym, ap, ◌∙◌, subst}
use Rattle.std.specs.Prelude.{Result, Ok, Err, IfSome}
use Rattle.dj_syntax.specs.declared.statement.Stm as code_stm
use Rattle.dj_syntax.specs.Trees.{Stm, Stms, Empty, And, view_stm, view_stms}
use Rattle.dj_values.specs.Outcomes as outcomes
use Rattle.dj_values.specs.Outcomes.{State, Outcome, Is, Stops, bind}
use Rattle.dj_meaning.specs.StaticTypes.{Context, Scope}
use Rattle.dj_meaning.specs.Runs.{Store, Meaning, ◌>>=◌, pure, with_store, map_state}
use Rattle.dj_meaning.specs.Completions as completion
use Rattle.dj_meaning.specs.Completions.{Completion, Normal, sequence}
use Rattle.dj_meaning.specs.Declarations.{declared, within, locally, passed, passed_one}
use Rattle.dj_meaning.specs.Statements.{Place, First, Behind, Elsewhere}
use Rattle.dj_meaning.specs.Meaning.{run, run_then, run_statements}
use Rattle.dj_outside.specs.declared.stop.Stop as code_stop
use Rattle.dj_outside.specs.Runs.{stop_of, Ends}
use Rattle.dj_source.specs.declared.scopes.KeptValue.{KeptValue}
use Rattle.dj_source.specs.declared.completion.Completion as code_completion
use Rattle.dj_source.specs.declared.completion.Completion.TheVariants as completions
use Rattle.dj_source.specs.Keeping.{store_back, back, store_without}
use Rattle.dj_source.specs.Running.{Opens, Passes, begun, view_completion}
use Rattle.dj_scopes.proofs.KeepingLemmas.{stms_more, stms_none}
use Rattle.dj_source.proofs.KeepingLemmas.{back_locally}

-- ---- the statements from a place on

pub begun_statements : (context : Context) (scope : Scope) (bound : ℕ) (list : Stms) → begun context scope bound First list (pure Normal) ≡ run_statements context scope bound list
begun_statements context scope bound Empty = refl
begun_statements context scope bound (And first rest) = refl

begun_none : (context : Context) (scope : Scope) (bound : ℕ) (place : Place) (next : Meaning Completion) → begun context scope bound place Empty next ≡ next
begun_none context scope bound First next = refl
begun_none context scope bound (Behind label) next = refl
begun_none context scope bound Elsewhere next = refl

begun_more : (context : Context) (scope : Scope) (bound : ℕ) (place : Place) (first : Stm) (rest : Stms) (next : Meaning Completion)
    → begun context scope bound place (And first rest) next ≡ locally (declared first) (run context scope bound place first >>= sequence (run_then context (within (declared first) scope) bound rest next))
begun_more context scope bound First first rest next = refl
begun_more context scope bound (Behind label) first rest next = refl
begun_more context scope bound Elsewhere first rest next = refl

-- what doesn't complete normally passes over what is behind it
pub passed_over : (completion : code_completion.Completion) (first second : Meaning Completion) → (completion ≡ completions.Normal → ⊥) → sequence first (view_completion completion) ≡ sequence second (view_completion completion)
passed_over completions.Normal first second other = absurd (other refl)
passed_over (completions.Break label) first second other = refl
passed_over (completions.Continue label) first second other = refl
passed_over (completions.Return result) first second other = refl
passed_over completions.Misfit first second other = refl

pub not_normal : (completion : code_completion.Completion) → (completion ≡ completions.Normal → ⊥) → view_completion completion ≡ Normal → ⊥
not_normal completions.Normal other is = other refl
not_normal (completions.Break label) other is = absurd (cc)
not_normal (completions.Continue label) other is = absurd (cc)
not_normal (completions.Return result) other is = absurd (cc)
not_normal completions.Misfit other is = absurd (cc)

module _ (context : Context) (bound : ℕ) (list : List code_stm.Stm) (k : ℕ) (kept : List KeptValue) (scope : Scope) (place : Place) (state : State Store) where
  -- what is left of a list, with what is kept already
  abbrev pub opened_at : Meaning Completion → Outcome Store Completion
  opened_at next = back kept (begun context scope bound place (view_stms (drop k list)) next state)

  pub open_all : length list ≤ k → (next : Meaning Completion) → opened_at next ≡ back kept (next state)
  open_all past next = ap (λ rest. back kept (begun context scope bound place rest next state)) (stms_none list k past) ∙ ap (λ part. back kept (part state)) (begun_none context scope bound place next)

  module _ (stm : code_stm.Stm) (more : List KeptValue) (within_list : k < length list) (is : stm ≡ get_or list k stm)
      (keeps : (other : Store) → store_back more other ≡ store_back kept (store_without (declared (view_stm stm)) state.store other)) where
    abbrev rest : Meaning Completion → Meaning Completion
    rest = run_then context (within (declared (view_stm stm)) scope) bound (view_stms (drop (k + 1) list))

    pub open_one : (next : Meaning Completion) → opened_at next ≡ back more (bind (run context scope bound place (view_stm stm) state) (sequence (rest next)))
    open_one next =
        ap (λ stms. back kept (begun context scope bound place stms next state)) (stms_more list k stm within_list is)
        ∙ ap (λ part. back kept (part state)) (begun_more context scope bound place (view_stm stm) (view_stms (drop (k + 1) list)) next)
        ∙ back_locally kept more (declared (view_stm stm)) (run context scope bound place (view_stm stm) >>= sequence (rest next)) state keeps

    module _ (after : State Store) where
      pub open_ran : (completion : code_completion.Completion) → run context scope bound place (view_stm stm) state ≡ Is (view_completion completion) after → (next : Meaning Completion) → opened_at next ≡ back more (sequence (rest next) (view_completion completion) after)
      open_ran completion ran next = open_one next ∙ ap (λ outcome. back more (bind outcome (sequence (rest next)))) ran

      pub open_left : (completion : code_completion.Completion) → (completion ≡ completions.Normal → ⊥) → run context scope bound place (view_stm stm) state ≡ Is (view_completion completion) after
          → (next : Meaning Completion) → opened_at next ≡ back more (sequence next (view_completion completion) after)
      open_left completion other ran next = open_ran completion ran next ∙ ap (λ part. back more (part after)) (passed_over completion (rest next) next other)

      pub open_stops : (stop : code_stop.Stop) → Ends view_completion (Err stop) after (run context scope bound place (view_stm stm) state) → (next : Meaning Completion) → Opens (Err stop) more after next (opened_at next)
      open_stops stop ran next = of_stop (stop_of stop) ran
        where
          of_stop : (why : Option outcomes.Stop) → IfSome why (λ it. run context scope bound place (view_stm stm) state ≡ Stops it after) → IfSome why (λ it. opened_at next ≡ back more (Stops it after))
          of_stop None same = tt
          of_stop (Some it) same = open_one next ∙ ap (λ outcome. back more (bind outcome (sequence (rest next)))) same

-- ---- declarations that are jumped over

module _ (list : List code_stm.Stm) (k : ℕ) (kept : List KeptValue) (scope : Scope) (state : State Store) where
  -- what is left of a list, with what is kept already
  abbrev pub passing_at : Meaning Completion → Outcome Store Completion
  passing_at next = back kept (passed scope (view_stms (drop k list)) next state)

  pub pass_all : length list ≤ k → (next : Meaning Completion) → passing_at next ≡ back kept (next state)
  pass_all past next = ap (λ rest. back kept (passed scope rest next state)) (stms_none list k past)

  module _ (stm : code_stm.Stm) (more : List KeptValue) (after : Scope) (new : State Store) (within_list : k < length list) (is : stm ≡ get_or list k stm) where
    abbrev rest_on : Meaning Completion → Meaning Completion
    rest_on next = passed (within (declared (view_stm stm)) scope) (view_stms (drop (k + 1) list)) next

    pass_first : (next : Meaning Completion) → passing_at next ≡ back kept (passed_one scope (declared (view_stm stm)) (rest_on next) state)
    pass_first next = ap (λ stms. back kept (passed scope stms next state)) (stms_more list k stm within_list is)

    pub pass_more : after ≡ within (declared (view_stm stm)) scope → ((next : Meaning Completion) → Passes (Ok tt) more new next (back kept (passed_one scope (declared (view_stm stm)) next state)))
        → (next : Meaning Completion) → passing_at next ≡ back more (passed after (view_stms (drop (k + 1) list)) next new)
    pass_more so passes next =
        pass_first next ∙ passes (rest_on next) ∙ ap (λ types. back more (passed types (view_stms (drop (k + 1) list)) next new)) (sym so)

    pub pass_stops : (stop : code_stop.Stop) → ((next : Meaning Completion) → Passes (Err stop) more new next (back kept (passed_one scope (declared (view_stm stm)) next state)))
        → (next : Meaning Completion) → Passes (Err stop) more new next (passing_at next)
    pass_stops stop passes next = of_stop (stop_of stop) (passes (rest_on next))
      where
        of_stop : (why : Option outcomes.Stop) → IfSome why (λ it. back kept (passed_one scope (declared (view_stm stm)) (rest_on next) state) ≡ back more (Stops it new)) → IfSome why (λ it. passing_at next ≡ back more (Stops it new))
        of_stop None same = tt
        of_stop (Some it) same = pass_first next ∙ same

-- the same whole, told of a start
pub passes_from : (result : Result (Unit {0}) code_stop.Stop) (kept : List KeptValue) (new : State Store) (next : Meaning Completion) (whole other : Outcome Store Completion) → whole ≡ other → Passes result kept new next other → Passes result kept new next whole
passes_from result kept new next whole other is passes = subst (λ (run : Outcome Store Completion). Passes result kept new next run) (sym is) passes

pub opens_from : (result : Result code_completion.Completion code_stop.Stop) (kept : List KeptValue) (new : State Store) (next : Meaning Completion) (whole other : Outcome Store Completion) → whole ≡ other → Opens result kept new next other → Opens result kept new next whole
opens_from result kept new next whole other is opens = subst (λ (run : Outcome Store Completion). Opens result kept new next run) (sym is) opens

-- a list that is jumped over, as one that runs to its end
pub opens_passed : (stop : code_stop.Stop) (kept : List KeptValue) (new : State Store) (next : Meaning Completion) (whole : Outcome Store Completion) → Passes (Err stop) kept new next whole → Opens (Err stop) kept new next whole
opens_passed stop kept new next whole passes = passes

-- ---- variables put back

back_none : {A : Type 0} (outcome : Outcome Store A) → back [] outcome ≡ outcome
back_none (Is result state) = refl
back_none (Stops why state) = refl

done_is : (completion : Completion) (state : State Store) → sequence (pure Normal) completion state ≡ Is completion state
done_is Normal state = refl
done_is (completion.Break label) state = refl
done_is (completion.Continue label) state = refl
done_is (completion.Return result) state = refl
done_is completion.Misfit state = refl

-- what a list came to, once its variables are put back
pub closes : (result : Result code_completion.Completion code_stop.Stop) (none kept : List KeptValue) (state after : State Store) (whole : Outcome Store Completion) → none ≡ [] → Opens result kept state (pure Normal) (back none whole) → after ≡ with_store (store_back kept) state
    → Ends view_completion result after whole
closes (Ok completed) none kept state after whole empty opens is =
    sym (back_none whole) ∙ ap (λ list. back list whole) (sym empty) ∙ opens ∙ ap (back kept) (done_is (view_completion completed) state) ∙ ap (Is (view_completion completed)) (sym is)
closes (Err stop) none kept state after whole empty opens is = of_stop (stop_of stop) opens
  where
    of_stop : (why : Option outcomes.Stop) → IfSome why (λ it. back none whole ≡ back kept (Stops it state)) → IfSome why (λ it. whole ≡ Stops it after)
    of_stop None same = tt
    of_stop (Some it) same = sym (back_none whole) ∙ ap (λ list. back list whole) (sym empty) ∙ same ∙ ap (Stops it) (sym is)

-- what a part of a variable alone came to, once the variable is put back
pub closes_one : (result : Result code_completion.Completion code_stop.Stop) (change : Store → Store) (state after : State Store) (part : Outcome Store Completion) → Ends view_completion result state part → after ≡ with_store change state
    → Ends view_completion result after (map_state (with_store change) part)
closes_one (Ok completed) change state after part ends is = ap (map_state (with_store change)) ends ∙ ap (Is (view_completion completed)) (sym is)
closes_one (Err stop) change state after part ends is = of_stop (stop_of stop) ends
  where
    of_stop : (why : Option outcomes.Stop) → IfSome why (λ it. part ≡ Stops it state) → IfSome why (λ it. map_state (with_store change) part ≡ Stops it after)
    of_stop None same = tt
    of_stop (Some it) same = ap (map_state (with_store change)) same ∙ ap (Stops it) (sym is)
