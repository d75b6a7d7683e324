-- Loops, a turn at a time.
use Rattle.std.proofs.Common.{arith, ◌≡◌, ℕ, zero, suc, ◌-◌, ◌<◌, ◌≤◌, Bool, true, false, Option, Some, None, refl, sym, ap, ◌∙◌, subst}
use Rattle.std.specs.Prelude.{Ok, Err, IfSome, if◌then◌else◌}
use Rattle.std.proofs.Math.Numerals.{sub-one}
use Rattle.dj_values.specs.Outcomes as outcomes
use Rattle.dj_values.specs.Outcomes.{More, State, Outcome, Is, Stops, bind}
use Rattle.dj_syntax.specs.declared.variable.Var.{Var}
use Rattle.dj_syntax.specs.Trees.{Exp, Stms}
use Rattle.dj_meaning.specs.StaticTypes.{Context, Scope}
use Rattle.dj_meaning.specs.Runs.{Store, Meaning, ◌>>=◌, pure}
use Rattle.dj_meaning.specs.Expressions.{either, test}
use Rattle.dj_meaning.specs.Completions.{Completion, Normal, next_turn, turns, do_turns}
use Rattle.dj_meaning.specs.Statements.{Place, label_at}
use Rattle.dj_meaning.specs.Meaning.{run_all}
use Rattle.dj_outside.specs.declared.stop.Stop as code_stop
use Rattle.dj_outside.specs.Runs.{stop_of, Ends}
use Rattle.dj_objects.proofs.Binding.{stops_bind}
use Rattle.dj_source.specs.declared.completion.Completion as code_completion
use Rattle.dj_source.specs.Running.{Turns, step_of, turn_of, view_completion}

module _ (own : Option ℕ) (test : Meaning Bool) (step : Meaning (Unit {0})) (body : Meaning Completion) where
  -- what comes behind the body of a loop
  abbrev pub onward : Meaning Completion → Meaning Completion
  onward next = body >>= next_turn own (step >>= λ done. next)

  -- ---- `while` and `for`

  abbrev pub loop : ℕ → Meaning Completion
  loop left = turns left own test step body

  pub loop_done : (left : ℕ) (state after : State Store) → test state ≡ Is false after → loop left state ≡ Is Normal after
  loop_done zero state after tested = ap (λ outcome. bind outcome (λ answer. either answer (λ at. Stops More at) (pure Normal))) tested
  loop_done (suc left) state after tested = ap (λ outcome. bind outcome (λ answer. either answer (onward (loop left)) (pure Normal))) tested

  pub loop_cut : (left : ℕ) (state after : State Store) → left ≡ 0 → test state ≡ Is true after → loop left state ≡ Stops More after
  loop_cut zero state after none tested = ap (λ outcome. bind outcome (λ answer. either answer (λ at. Stops More at) (pure Normal))) tested
  loop_cut (suc left) state after none tested = absurd (cc)

  pub loop_stops : (left : ℕ) (state after : State Store) (stop : code_stop.Stop) → Ends (λ (answer : Bool). answer) (Err stop) after (test state) → Ends view_completion (Err stop) after (loop left state)
  loop_stops zero state after stop tested = stops_bind (λ (answer : Bool). answer) view_completion stop after (test state) (λ answer. either answer (λ at. Stops More at) (pure Normal)) tested
  loop_stops (suc left) state after stop tested = stops_bind (λ (answer : Bool). answer) view_completion stop after (test state) (λ answer. either answer (onward (loop left)) (pure Normal)) tested

  pub loop_turn : (left : ℕ) (state after : State Store) → 0 < left → test state ≡ Is true after → loop left state ≡ onward (loop (left - 1)) after
  loop_turn zero state after some tested = absurd (omega arith)
  loop_turn (suc left) state after some tested =
      ap (λ outcome. bind outcome (λ answer. either answer (onward (loop left)) (pure Normal))) tested ∙ ap (λ bound. onward (loop bound) after) (sym (sub-one (suc left)))

  -- ---- `do`

  abbrev pub do_loop : ℕ → Meaning Completion
  do_loop left = do_turns left own test body

  -- behind the body of a `do`
  abbrev pub tested_on : ℕ → Meaning Completion
  tested_on left = test >>= λ answer. either answer (do_loop left) (pure Normal)

  pub do_cut : (left : ℕ) (state : State Store) → left ≤ 0 → do_loop left state ≡ Stops More state
  do_cut zero state none = refl
  do_cut (suc left) state none = absurd (omega arith)

  pub do_turn : (left : ℕ) (state : State Store) → 0 < left → do_loop left state ≡ (body >>= next_turn own (tested_on (left - 1))) state
  do_turn zero state some = absurd (omega arith)
  do_turn (suc left) state some = ap (λ bound. (body >>= next_turn own (tested_on bound)) state) (sym (sub-one (suc left)))

-- ---- what a turn came to

pub turn_ends : (completion : code_completion.Completion) (state : State Store) (whole outcome : Outcome Store Completion) (next : Meaning Completion) → whole ≡ outcome → Turns (Ok (Some completion)) state next outcome → whole ≡ Is (view_completion completion) state
turn_ends completion state whole outcome next is turned = is ∙ turned

pub turn_stops : (stop : code_stop.Stop) (state : State Store) (whole outcome : Outcome Store Completion) (next : Meaning Completion) → whole ≡ outcome → Turns (Err stop) state next outcome → Ends view_completion (Err stop) state whole
turn_stops stop state whole outcome next is turned = of_stop (stop_of stop) turned
  where
    of_stop : (why : Option outcomes.Stop) → IfSome why (λ it. outcome ≡ Stops it state) → IfSome why (λ it. whole ≡ Stops it state)
    of_stop None same = tt
    of_stop (Some it) same = is ∙ same

-- ---- a turn, by its parts

module _ (context : Context) (scope : Scope) (bound : ℕ) (place : Place) (list : Stms) (step : Option (Var × Exp)) (old middle : State Store) where
  abbrev stepping : Meaning Completion → Meaning Completion
  stepping next = step_of context scope step >>= λ done. next

  abbrev turn : Meaning Completion → Outcome Store Completion
  turn next = turn_of context scope bound place list step next old

  pub turn_no_body : (stop : code_stop.Stop) → Ends view_completion (Err stop) middle (run_all context scope bound list old) → (next : Meaning Completion) → Turns (Err stop) middle next (turn next)
  turn_no_body stop ends next = of_stop (stop_of stop) ends
    where
      of_stop : (why : Option outcomes.Stop) → IfSome why (λ it. run_all context scope bound list old ≡ Stops it middle) → IfSome why (λ it. turn next ≡ Stops it middle)
      of_stop None same = tt
      of_stop (Some it) same = ap (λ outcome. bind outcome (next_turn (label_at place) (stepping next))) same

  module _ (completion : Completion) (is : run_all context scope bound list old ≡ Is completion middle) (goes known : Bool)
      (same : (again : Meaning Completion) → next_turn (label_at place) again completion ≡ (if goes then again else pure completion)) (so : goes ≡ known) where
    turn_is : (next : Meaning Completion) → turn next ≡ (if known then stepping next else pure completion) middle
    turn_is next =
        ap (λ outcome. bind outcome (next_turn (label_at place) (stepping next))) is ∙ ap (λ part. part middle) (same (stepping next))
        ∙ ap (λ answer. (if answer then stepping next else pure completion) middle) so

    pub turn_leaves : known ≡ false → (next : Meaning Completion) → turn next ≡ Is completion middle
    turn_leaves fails next = turn_is next ∙ ap (λ answer. (if answer then stepping next else pure completion) middle) fails

    module _ (holds : known ≡ true) (here : Scope) (there : here ≡ scope) (new : State Store) where
      turn_goes : (next : Meaning Completion) → turn next ≡ bind (step_of context here step middle) (λ done. next)
      turn_goes next =
          turn_is next ∙ ap (λ answer. (if answer then stepping next else pure completion) middle) holds
          ∙ ap (λ types. bind (step_of context types step middle) (λ done. next)) (sym there)

      pub turn_steps : step_of context here step middle ≡ Is tt new → (next : Meaning Completion) → turn next ≡ next new
      turn_steps stepped next = turn_goes next ∙ ap (λ outcome. bind outcome (λ done. next)) stepped

      pub turn_no_step : (stop : code_stop.Stop) → Ends (λ (done : Unit {0}). done) (Err stop) new (step_of context here step middle) → (next : Meaning Completion) → Turns (Err stop) new next (turn next)
      turn_no_step stop ends next = of_stop (stop_of stop) ends
        where
          of_stop : (why : Option outcomes.Stop) → IfSome why (λ it. step_of context here step middle ≡ Stops it new) → IfSome why (λ it. turn next ≡ Stops it new)
          of_stop None same = tt
          of_stop (Some it) same = turn_goes next ∙ ap (λ outcome. bind outcome (λ done. next)) same

-- ---- loops of statements

module _ (context : Context) (scope : Scope) (bound : ℕ) (place : Place) (condition : Exp) (step : Option (Var × Exp)) (list : Stms) where
  abbrev pub while_of : ℕ → Meaning Completion
  while_of left = turns left (label_at place) (test context scope condition) (step_of context scope step) (run_all context scope bound list)

  abbrev pub do_of : ℕ → Meaning Completion
  do_of left = do_turns left (label_at place) (test context scope condition) (run_all context scope bound list)

  module _ (whole : Outcome Store Completion) (left : ℕ) (now : Scope) (same : now ≡ scope) (state : State Store) where
    -- the test, in the scope that there is
    asked_there : (outcome : Outcome Store Bool) → test context now condition state ≡ outcome → test context scope condition state ≡ outcome
    asked_there outcome is = ap (λ types. test context types condition state) (sym same) ∙ is

    module _ (so_far : whole ≡ while_of left state) (after : State Store) where
      pub while_stops : (stop : code_stop.Stop) → Ends (λ (answer : Bool). answer) (Err stop) after (test context now condition state) → Ends view_completion (Err stop) after whole
      while_stops stop ends =
          subst (λ (run : Outcome Store Completion). Ends view_completion (Err stop) after run) (sym so_far)
          (loop_stops (label_at place) (test context scope condition) (step_of context scope step) (run_all context scope bound list) left state after stop
          (subst (λ types. Ends (λ (answer : Bool). answer) (Err stop) after (test context types condition state)) same ends))

      pub while_done : (answer : Bool) → test context now condition state ≡ Is answer after → answer ≡ false → whole ≡ Is Normal after
      while_done answer tested fails =
          so_far ∙ loop_done (label_at place) (test context scope condition) (step_of context scope step) (run_all context scope bound list) left state after
          (asked_there (Is false after) (tested ∙ ap (λ one. Is one after) fails))

      pub while_cut : (answer : Bool) → left ≡ 0 → test context now condition state ≡ Is answer after → answer ≡ true → whole ≡ Stops More after
      while_cut answer none tested holds =
          so_far ∙ loop_cut (label_at place) (test context scope condition) (step_of context scope step) (run_all context scope bound list) left state after none
          (asked_there (Is true after) (tested ∙ ap (λ one. Is one after) holds))

      module _ (answer : Bool) (some : 0 < left) (tested : test context now condition state ≡ Is answer after) (holds : answer ≡ true) (new : State Store) where
        abbrev turn_on : Outcome Store Completion
        turn_on = turn_of context now bound place list step (while_of (left - 1)) after

        turned : whole ≡ turn_on
        turned =
            so_far ∙ loop_turn (label_at place) (test context scope condition) (step_of context scope step) (run_all context scope bound list) left state after some
            (asked_there (Is true after) (tested ∙ ap (λ one. Is one after) holds))
            ∙ ap (λ types. turn_of context types bound place list step (while_of (left - 1)) after) (sym same)

        pub while_turn : ((next : Meaning Completion) → Turns (Ok None) new next (turn_of context now bound place list step next after)) → whole ≡ while_of (left - 1) new
        while_turn turns_on = turned ∙ turns_on (while_of (left - 1))

        pub while_left : (completion : code_completion.Completion) → ((next : Meaning Completion) → Turns (Ok (Some completion)) new next (turn_of context now bound place list step next after)) → whole ≡ Is (view_completion completion) new
        while_left completion turns_on = turned ∙ turns_on (while_of (left - 1))

        pub while_turn_stops : (stop : code_stop.Stop) → ((next : Meaning Completion) → Turns (Err stop) new next (turn_of context now bound place list step next after)) → Ends view_completion (Err stop) new whole
        while_turn_stops stop turns_on = turn_stops stop new whole turn_on (while_of (left - 1)) turned (turns_on (while_of (left - 1)))

    module _ (so_far : whole ≡ do_of left state) (some : 0 < left) (new : State Store) where
      -- what comes behind the body of a `do`
      abbrev tested_next : Meaning Completion
      tested_next = test context scope condition >>= λ answer. either answer (do_of (left - 1)) (pure Normal)

      abbrev do_on : Outcome Store Completion
      do_on = turn_of context now bound place list None tested_next state

      turned_do : whole ≡ do_on
      turned_do =
          so_far ∙ do_turn (label_at place) (test context scope condition) (step_of context scope None) (run_all context scope bound list) left state some
          ∙ ap (λ types. turn_of context types bound place list None tested_next state) (sym same)

      pub do_left : (completion : code_completion.Completion) → ((next : Meaning Completion) → Turns (Ok (Some completion)) new next (turn_of context now bound place list None next state)) → whole ≡ Is (view_completion completion) new
      do_left completion turns_on = turned_do ∙ turns_on tested_next

      pub do_turn_stops : (stop : code_stop.Stop) → ((next : Meaning Completion) → Turns (Err stop) new next (turn_of context now bound place list None next state)) → Ends view_completion (Err stop) new whole
      do_turn_stops stop turns_on = turn_stops stop new whole do_on tested_next turned_do (turns_on tested_next)

      module _ (turns_on : (next : Meaning Completion) → Turns (Ok None) new next (turn_of context now bound place list None next state)) (later : Scope) (again : later ≡ scope) (after : State Store) where
        do_tested : whole ≡ tested_next new
        do_tested = turned_do ∙ turns_on tested_next

        asked_again : (outcome : Outcome Store Bool) → test context later condition new ≡ outcome → test context scope condition new ≡ outcome
        asked_again outcome is = ap (λ types. test context types condition new) (sym again) ∙ is

        pub do_more : (answer : Bool) → test context later condition new ≡ Is answer after → answer ≡ true → whole ≡ do_of (left - 1) after
        do_more answer tested holds =
            do_tested ∙ ap (λ run. bind run (λ one. either one (do_of (left - 1)) (pure Normal))) (asked_again (Is true after) (tested ∙ ap (λ one. Is one after) holds))

        pub do_done : (answer : Bool) → test context later condition new ≡ Is answer after → answer ≡ false → whole ≡ Is Normal after
        do_done answer tested fails =
            do_tested ∙ ap (λ run. bind run (λ one. either one (do_of (left - 1)) (pure Normal))) (asked_again (Is false after) (tested ∙ ap (λ one. Is one after) fails))

        pub do_test_stops : (stop : code_stop.Stop) → Ends (λ (answer : Bool). answer) (Err stop) after (test context later condition new) → Ends view_completion (Err stop) after whole
        do_test_stops stop ends =
            subst (λ (run : Outcome Store Completion). Ends view_completion (Err stop) after run) (sym do_tested)
            (stops_bind (λ (answer : Bool). answer) view_completion stop after (test context scope condition new) (λ one. either one (do_of (left - 1)) (pure Normal))
            (subst (λ types. Ends (λ (answer : Bool). answer) (Err stop) after (test context types condition new)) again ends))

    pub do_cut_off : whole ≡ do_of left state → left ≤ 0 → whole ≡ Stops More state
    do_cut_off so_far none = so_far ∙ do_cut (label_at place) (test context scope condition) (step_of context scope None) (run_all context scope bound list) left state none
