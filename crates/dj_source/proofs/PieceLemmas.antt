-- Statements that have statements in them, by their parts.
use Rattle.std.proofs.Common.{◌≡◌, ℕ, ℤ, Bool, List, [], ◌∷◌, ◌++◌, map, Option, Some, None, sym, ap, ◌∙◌, subst}
use Rattle.std.specs.Prelude.{reverse, Result, Ok, Err, IfSome, option_map}
use Rattle.std.proofs.lemmas.List.{reverse-append}
use Rattle.dj_names.specs.declared.header.Header.{Header}
use Rattle.dj_names.specs.Types.{Class}
use Rattle.dj_syntax.specs.declared.variable.Var.{Var}
use Rattle.dj_syntax.specs.Trees.{Exp, Stm, If, Labelled, Switch, Synchronized, Stms, Groups}
use Rattle.dj_values.specs.Values.{RefValue, Value, Ref, Enter, Exit}
use Rattle.dj_values.specs.declared.reference.RefValue as code_reference
use Rattle.dj_values.specs.Views.{view_reference, view_value}
use Rattle.dj_values.specs.Outcomes as outcomes
use Rattle.dj_values.specs.Outcomes.{Throws, More, Stuck, Gives, ask, World, State, Outcome, Is, Stops, bind, outside}
use Rattle.dj_meaning.specs.StaticTypes.{Context, Scope, with_type}
use Rattle.dj_meaning.specs.Objects.{with_object}
use Rattle.dj_meaning.specs.Runs.{Store, Meaning, ◌>>=◌, pure, stop, put, with_value, with_store}
use Rattle.dj_meaning.specs.Expressions.{either, value, test}
use Rattle.dj_meaning.specs.Completions.{Completion, Normal, sequence, taken, finished, with_held, left_by, exited, released, held_besides, entered_on}
use Rattle.dj_meaning.specs.Declarations.{opened}
use Rattle.dj_meaning.specs.Statements.{Behind, Elsewhere, label_for, number_of, switched}
use Rattle.dj_meaning.specs.Meaning.{run, run_all, run_from}
use Rattle.dj_outside.specs.declared.stop.Stop as code_stop
use Rattle.dj_outside.specs.Runs.{state_of, stop_of, Ends}
use Rattle.dj_objects.proofs.Binding.{bind-bind, stops_bind}
use Rattle.dj_evaluating.proofs.PartLemmas.{then_ends, then_stops}
use Rattle.dj_source.specs.declared.completion.Completion as code_completion
use Rattle.dj_source.specs.Running.{Leaves, caught_body, entered_with, view_completion}

module _ (context : Context) (scope : Scope) (bound : ℕ) (old middle : State Store) where
  abbrev of : Stm → Outcome Store Completion
  of stm = run context scope bound Elsewhere stm old

  abbrev all : Stms → Meaning Completion
  all list = run_all context scope bound list

  -- ---- `if`

  module _ (condition : Exp) (first second : Stms) where
    abbrev one_of : Bool → Meaning Completion
    one_of answer = either answer (all first) (all second)

    pub if_stops : (stop : code_stop.Stop) → Ends (λ (answer : Bool). answer) (Err stop) middle (test context scope condition old) → Ends view_completion (Err stop) middle (of (If condition first second))
    if_stops stop ends = then_stops (λ (answer : Bool). answer) view_completion (test context scope condition) one_of old middle stop ends

    pub if_ends : (result : Result code_completion.Completion code_stop.Stop) (answer known : Bool) (new : State Store) → test context scope condition old ≡ Is answer middle → answer ≡ known
        → Ends view_completion result new (one_of known middle) → Ends view_completion result new (of (If condition first second))
    if_ends result answer known new is same ends =
        then_ends (λ (one : Bool). one) view_completion (test context scope condition) one_of old middle result new known (is ∙ ap (λ one. Is one middle) same) ends

  -- ---- labels

  pub labelled_stops : (label : ℕ) (inner : Stm) (stop : code_stop.Stop) → Ends view_completion (Err stop) middle (run context scope bound (Behind label) inner old) → Ends view_completion (Err stop) middle (of (Labelled label inner))
  labelled_stops label inner stop ends = then_stops view_completion view_completion (run context scope bound (Behind label) inner) (taken label) old middle stop ends

  pub labelled_ends : (label : ℕ) (inner : Stm) (result : Result code_completion.Completion code_stop.Stop) (completion : Completion) → run context scope bound (Behind label) inner old ≡ Is completion middle
      → Ends view_completion result middle (taken label completion middle) → Ends view_completion result middle (of (Labelled label inner))
  labelled_ends label inner result completion is ends = then_ends view_completion view_completion (run context scope bound (Behind label) inner) (taken label) old middle result middle completion is ends

  -- ---- `finally`, behind what the first list came to

  module _ (last : Stms) (first : Outcome Store Completion) where
    module _ (completion : Completion) (is : first ≡ Is completion old) where
      pub finally_stops : (why : code_stop.Stop) → Ends view_completion (Err why) middle (all last old) → Ends view_completion (Err why) middle (finished (all last) first)
      finally_stops why ends =
          subst (λ (run : Outcome Store Completion). Ends view_completion (Err why) middle run) (sym (ap (finished (all last)) is))
          (stops_bind view_completion view_completion why middle (all last old) (sequence (pure completion)) ends)

      pub finally_ends : (end given : Completion) → all last old ≡ Is end middle → sequence (pure completion) end middle ≡ Is given middle → finished (all last) first ≡ Is given middle
      finally_ends end given ended so = ap (finished (all last)) is ∙ ap (λ run. bind run (sequence (pure completion))) ended ∙ so

    module _ (reference : RefValue) (is : first ≡ Stops (Throws reference) old) where
      pub thrown_stops : (why : code_stop.Stop) → Ends view_completion (Err why) middle (all last old) → Ends view_completion (Err why) middle (finished (all last) first)
      thrown_stops why ends =
          subst (λ (run : Outcome Store Completion). Ends view_completion (Err why) middle run) (sym (ap (finished (all last)) is))
          (stops_bind view_completion view_completion why middle (all last old) (sequence (stop (Throws reference))) ends)

      pub thrown_ends : (result : Result code_completion.Completion code_stop.Stop) (end : Completion) → all last old ≡ Is end middle → Ends view_completion result middle (sequence (stop (Throws reference)) end middle)
          → Ends view_completion result middle (finished (all last) first)
      thrown_ends result end ended ends =
          subst (λ (run : Outcome Store Completion). Ends view_completion result middle run)
          (sym (ap (finished (all last)) is ∙ ap (λ run. bind run (sequence (stop (Throws reference)))) ended)) ends

  -- ---- switches

  module _ (on : Exp) (groups : Groups) where
    abbrev leads : ℤ → Meaning Completion
    leads number = switched (run_from context scope bound groups) (label_for groups number)

    abbrev numbered : Value → Meaning ℤ
    numbered found = outside context.headers (number_of found)

    abbrev numbered_on : Value → Meaning Completion
    numbered_on found = numbered found >>= leads

    pub switch_stops : (why : code_stop.Stop) → Ends view_value (Err why) middle (value context scope on old) → Ends view_completion (Err why) middle (of (Switch on groups))
    switch_stops why ends = then_stops view_value view_completion (value context scope on) numbered_on old middle why ends

    module _ (found : Value) (is : value context scope on old ≡ Is found middle) where
      switch_on : of (Switch on groups) ≡ bind (numbered found middle) leads
      switch_on = ap (λ run. bind run numbered_on) is

      pub switch_no_number : (stop : code_stop.Stop) → Ends (λ (number : ℤ). number) (Err stop) middle (numbered found middle) → Ends view_completion (Err stop) middle (of (Switch on groups))
      switch_no_number stop ends =
          subst (λ (run : Outcome Store Completion). Ends view_completion (Err stop) middle run) (sym switch_on) (stops_bind (λ (number : ℤ). number) view_completion stop middle (numbered found middle) leads ends)

      module _ (number : ℤ) (so : numbered found middle ≡ Is number middle) where
        switch_to : (target : Option (Option ℤ)) → target ≡ label_for groups number → of (Switch on groups) ≡ switched (run_from context scope bound groups) target middle
        switch_to target leads_to =
            switch_on ∙ ap (λ run. bind run leads) so ∙ ap (λ label. switched (run_from context scope bound groups) label middle) (sym leads_to)

        pub switch_nowhere : (target : Option (Option ℤ)) → target ≡ label_for groups number → target ≡ None → of (Switch on groups) ≡ Is Normal middle
        switch_nowhere target leads_to none = switch_to target leads_to ∙ ap (λ label. switched (run_from context scope bound groups) label middle) none

        pub switch_ends : (target : Option (Option ℤ)) (wanted : Option ℤ) (result : Result code_completion.Completion code_stop.Stop) (new : State Store) → target ≡ label_for groups number → target ≡ Some wanted
            → Ends view_completion result new (run_from context scope bound groups wanted middle) → Ends view_completion result new (of (Switch on groups))
        switch_ends target wanted result new leads_to some ends =
            subst (λ (run : Outcome Store Completion). Ends view_completion result new run)
            (sym (switch_to target leads_to ∙ ap (λ label. switched (run_from context scope bound groups) label middle) some)) ends

  -- ---- monitors

  module _ (monitor : Exp) (body : Stms) where
    -- a monitor that is entered, and then the part that leaves it
    abbrev holds : RefValue → Meaning Completion
    holds reference = entered_on context.headers reference >>= λ done state. released context.headers (all body state)

    abbrev referred : Value → Meaning RefValue
    referred found = outside context.headers (with_object found (λ reference. Gives reference))

    abbrev releasing : Unit {0} → Meaning Completion
    releasing done state = released context.headers (all body state)

    pub holding_stops : (stop : code_stop.Stop) → Ends view_value (Err stop) middle (value context scope monitor old) → Ends view_completion (Err stop) middle (of (Synchronized monitor body))
    holding_stops stop ends = then_stops view_value view_completion (value context scope monitor) (λ found. referred found >>= holds) old middle stop ends

    module _ (found : Value) (is : value context scope monitor old ≡ Is found middle) where
      holding_on : of (Synchronized monitor body) ≡ bind (entered_with context.headers found middle) releasing
      holding_on =
          ap (λ run. bind run (λ one. referred one >>= holds)) is
          ∙ sym (bind-bind (referred found middle) (entered_on context.headers) releasing)

      pub holding_no_entry : (stop : code_stop.Stop) (entry : State Store) → Ends (λ (done : Unit {0}). done) (Err stop) entry (entered_with context.headers found middle) → Ends view_completion (Err stop) entry (of (Synchronized monitor body))
      holding_no_entry stop entry ends =
          subst (λ (run : Outcome Store Completion). Ends view_completion (Err stop) entry run) (sym holding_on)
          (stops_bind (λ (done : Unit {0}). done) view_completion stop entry (entered_with context.headers found middle) releasing ends)

      module _ (entry : State Store) (enters : entered_with context.headers found middle ≡ Is tt entry) where
        pub holding_is : (outcome : Outcome Store Completion) → all body entry ≡ outcome → of (Synchronized monitor body) ≡ released context.headers outcome
        holding_is outcome so = holding_on ∙ ap (λ run. bind run releasing) enters ∙ ap (released context.headers) so

        module _ (after new : State Store) where
          pub holding_done : (completion : Completion) → all body entry ≡ Is completion after → ((next : Meaning Completion) → Leaves (Ok tt) new next (exited context.headers next after)) → of (Synchronized monitor body) ≡ Is completion new
          holding_done completion so leaves = holding_is (Is completion after) so ∙ leaves (pure completion)

          pub holding_thrown : (reference : RefValue) → all body entry ≡ Stops (Throws reference) after → ((next : Meaning Completion) → Leaves (Ok tt) new next (exited context.headers next after))
              → of (Synchronized monitor body) ≡ Stops (Throws reference) new
          holding_thrown reference so leaves = holding_is (Stops (Throws reference) after) so ∙ leaves (stop (Throws reference))

          holding_left : (why : code_stop.Stop) (next : Meaning Completion) → of (Synchronized monitor body) ≡ exited context.headers next after → Leaves (Err why) new next (exited context.headers next after)
              → Ends view_completion (Err why) new (of (Synchronized monitor body))
          holding_left why next same leaves = of_stop (stop_of why) leaves
            where
              of_stop : (maybe : Option outcomes.Stop) → IfSome maybe (λ it. exited context.headers next after ≡ Stops it new) → IfSome maybe (λ it. of (Synchronized monitor body) ≡ Stops it new)
              of_stop None so = tt
              of_stop (Some it) so = same ∙ so

          pub holding_done_stops : (completion : Completion) (why : code_stop.Stop) → all body entry ≡ Is completion after → ((next : Meaning Completion) → Leaves (Err why) new next (exited context.headers next after))
              → Ends view_completion (Err why) new (of (Synchronized monitor body))
          holding_done_stops completion why so leaves = holding_left why (pure completion) (holding_is (Is completion after) so) (leaves (pure completion))

          pub holding_thrown_stops : (reference : RefValue) (why : code_stop.Stop) → all body entry ≡ Stops (Throws reference) after → ((next : Meaning Completion) → Leaves (Err why) new next (exited context.headers next after))
              → Ends view_completion (Err why) new (of (Synchronized monitor body))
          holding_thrown_stops reference why so leaves = holding_left why (stop (Throws reference)) (holding_is (Stops (Throws reference) after) so) (leaves (stop (Throws reference)))

-- ---- catch clauses

module _ (context : Context) (scope : Scope) (bound : ℕ) (class : List ℕ) (variable : Var) (body : Stms) (reference : RefValue) (old middle : State Store) where
  -- the body, once the variable has the exception
  abbrev caught_on : Unit {0} → Meaning Completion
  caught_on done = put variable (Some (Ref reference)) >>= λ done. run_all context (with_type variable (Class class) scope) bound body

  pub caught_stops : (stop : code_stop.Stop) → Ends (λ (done : Unit {0}). done) (Err stop) middle (opened scope variable old) → Ends view_completion (Err stop) middle (caught_body context scope bound class variable body reference old)
  caught_stops stop ends = then_stops (λ (done : Unit {0}). done) view_completion (opened scope variable) caught_on old middle stop ends

  pub caught_ends : (result : Result code_completion.Completion code_stop.Stop) (after : Scope) (filled new : State Store) → opened scope variable old ≡ Is tt middle → after ≡ with_type variable (Class class) scope
      → filled ≡ with_store (with_value variable (Some (Ref reference))) middle → Ends view_completion result new (run_all context after bound body filled) → Ends view_completion result new (caught_body context scope bound class variable body reference old)
  caught_ends result after filled new is same stored ends =
      then_ends (λ (done : Unit {0}). done) view_completion (opened scope variable) caught_on old middle result new tt is
      (subst (λ types. Ends view_completion result new (run_all context types bound body (with_store (with_value variable (Some (Ref reference))) middle))) same
      (subst (λ state. Ends view_completion result new (run_all context after bound body state)) stored ends))

-- ---- monitors that are entered and left

module _ (headers : List Header) (old : State Store) where
  abbrev leaving : RefValue → List RefValue → Outcome Store (Option Value)
  leaving monitor rest = outside headers (ask (Exit monitor)) (with_store (with_held rest) old)

  pub left_is : (held rest : List RefValue) (monitor : RefValue) (dropped : Option Value) (new : State Store) (next : Meaning Completion) → held ≡ monitor ∷ rest → leaving monitor rest ≡ Is dropped new → left_by headers next held old ≡ next new
  left_is held rest monitor dropped new next some is = ap (λ list. left_by headers next list old) some ∙ ap (λ run. bind run (λ done. next)) is

  pub left_stops : (held rest : List RefValue) (monitor : RefValue) (stop : code_stop.Stop) (new : State Store) (next : Meaning Completion) → held ≡ monitor ∷ rest
      → Ends (option_map view_value) (Err stop) new (leaving monitor rest) → Leaves (Err stop) new next (left_by headers next held old)
  left_stops held rest monitor why new next some ends = of_stop (stop_of why) ends
    where
      of_stop : (maybe : Option outcomes.Stop) → IfSome maybe (λ it. leaving monitor rest ≡ Stops it new) → IfSome maybe (λ it. left_by headers next held old ≡ Stops it new)
      of_stop None so = tt
      of_stop (Some it) so = ap (λ list. left_by headers next list old) some ∙ ap (λ run. bind run (λ done. next)) so

module _ (headers : List Header) (found : Value) (old middle : State Store) where
  abbrev reference_of : Meaning RefValue
  reference_of = outside headers (with_object found (λ reference. Gives reference))

  pub enters_no_object : (stop : code_stop.Stop) → Ends view_reference (Err stop) middle (reference_of old) → Ends (λ (done : Unit {0}). done) (Err stop) middle (entered_with headers found old)
  enters_no_object stop ends = then_stops view_reference (λ (done : Unit {0}). done) reference_of (entered_on headers) old middle stop ends

  module _ (reference : RefValue) (is : reference_of old ≡ Is reference middle) (after : State Store) where
    abbrev entering : Outcome Store (Option Value)
    entering = outside headers (ask (Enter reference)) middle

    enters_on : entered_with headers found old ≡ bind entering (λ done. held_besides reference)
    enters_on = ap (λ run. bind run (entered_on headers)) is

    pub enters_stops : (stop : code_stop.Stop) → Ends (option_map view_value) (Err stop) after entering → Ends (λ (done : Unit {0}). done) (Err stop) after (entered_with headers found old)
    enters_stops stop ends =
        subst (λ (run : Outcome Store (Unit {0})). Ends (λ (done : Unit {0}). done) (Err stop) after run) (sym enters_on)
        (stops_bind (option_map view_value) (λ (done : Unit {0}). done) stop after entering (λ done. held_besides reference) ends)

    pub enters_is : (dropped : Option Value) (new : State Store) → entering ≡ Is dropped after → new ≡ with_store (with_held (reference ∷ after.store.held)) after → entered_with headers found old ≡ Is tt new
    enters_is dropped new entered held = enters_on ∙ ap (λ run. bind run (λ done. held_besides reference)) entered ∙ ap (Is tt) (sym held)

-- ---- the monitors that a run holds, the innermost last

pub held_last : (held rest : List code_reference.RefValue) (monitor : code_reference.RefValue) → held ≡ rest ++ monitor ∷ [] → map view_reference (reverse held) ≡ view_reference monitor ∷ map view_reference (reverse rest)
held_last held rest monitor is = ap (λ list. map view_reference (reverse list)) is ∙ ap (map view_reference) (reverse-append rest (monitor ∷ []))

-- a state with these monitors
abbrev pub holding_these : (Var → Option Value) → World → List code_reference.RefValue → State Store
holding_these variables world held = state_of (record { variables = variables; held = map view_reference (reverse held) }) world

pub held_besides_is : (variables : Var → Option Value) (world : World) (held rest : List code_reference.RefValue) (monitor : code_reference.RefValue) → held ≡ rest ++ monitor ∷ []
    → holding_these variables world held ≡ with_store (with_held (view_reference monitor ∷ map view_reference (reverse rest))) (holding_these variables world rest)
held_besides_is variables world held rest monitor is = ap (λ list. state_of (record { variables = variables; held = list }) world) (held_last held rest monitor is)

pub left_nothing : (headers : List Header) (variables : Var → Option Value) (world : World) (held after : List code_reference.RefValue) (next : Meaning Completion) → held ≡ [] → after ≡ []
    → exited headers next (holding_these variables world held) ≡ next (holding_these variables world after)
left_nothing headers variables world held after next none gone =
    ap (λ list. exited headers next (holding_these variables world list)) none ∙ ap (λ list. next (holding_these variables world list)) (sym gone)
