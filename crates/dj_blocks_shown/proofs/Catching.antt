-- A block that is shown where nothing is caught is shown with the catchers of its handlers.
use Rattle.std.proofs.Common.{◌≡◌, ℕ, ◌-◌, Bool, true, false, List, [], ◌∷◌, Option, Some, None, inl, inr, refl, sym, ap, ◌∙◌, subst, arith}
use Rattle.std.specs.Prelude.{if◌then◌else◌, ◌==◌, ◌&&◌, ◌||◌, nat_le, nat_lt, slice_get}
use Rattle.std.specs.List.{Contains}
use Rattle.std.proofs.lemmas.Bool.{cases_Bool, eqb-true, eq-eqb, ltb-true, ltb-false}
use Rattle.std.proofs.lemmas.List.Elements.{Contains-append_left, Contains-append_right}
use Rattle.dj_names.specs.declared.header.Header.{Header}
use Rattle.dj_values.specs.Values.{RefValue, Value, Ref}
use Rattle.dj_values.specs.Deciding.{is_instance}
use Rattle.dj_values.specs.Outcomes.{Throws, More, Stuck, State, Outcome, Is, Stops}
use Rattle.dj_instructions.specs.Instructions.{Instructions}
use Rattle.dj_code.specs.declared.method_code.Handler.{Handler}
use Rattle.dj_code.specs.MethodCode.{Code}
use Rattle.dj_starts.specs.Edges.{covers}
use Rattle.dj_meaning.specs.Runs.{Store, Meaning, pure, stop, put, with_value, with_store, ◌>>=◌}
use Rattle.dj_meaning.specs.Completions.{Completion, Break, Return, handled}
use Rattle.dj_graph.specs.declared.graph.Catcher.{Catcher}
use Rattle.dj_graph.specs.GraphRuns as graphs
use Rattle.dj_graph.specs.GraphRuns.{sent_on, sent_by}
use Rattle.dj_bytecode.specs.Meanings.{Family, Strict, Moves, Loads, Stores, Counts, Leads, Returns, NotRun, meaning_of}
use Rattle.dj_bytecode.specs.Machine.{Locals, local_slots, Place, Before, Returned, code_from, step, takes, handler_for, caught, pc_of}
use Rattle.dj_typed_states.specs.Facts.{shapes}
use Rattle.dj_sound.specs.States.{table_of, Stands}
use Rattle.dj_blocks.specs.Blocks.{is_jump, stepped, behind, block}
use Rattle.dj_vars.specs.Slots.{slot_value}
use Rattle.dj_vars.specs.Naming.{Typing, AreVars, SaysReferences}
use Rattle.dj_vars.specs.Agreeing.{local_variable, IsOfType, IsKept, IsThisSlot}
use Rattle.dj_vars.proofs.Holding.{named-holds, begins-at}
use Rattle.dj_blocks_shown.specs.Leaving.{Parts, is_start, uncaught, IsCaughtIn, Comes, AgreesAtThrow, Throwing, Leaves}
use Rattle.dj_blocks_shown.specs.Catching.{IsCatcherOf, Catches, none_left, passes, catches, catches_all, IsEven, AreCatchers, as_covered, never_throws, CatchersShow}

-- ---- which handler takes what is thrown

pub second_fails : (first second : Bool) → (first || second) ≡ false → second ≡ false
second_fails true second is = absurd (no is)
  where
    no : true ≡ false → ⊥
    no e = cc
second_fails false second is = is

pub first_fails : (first second : Bool) → (first || second) ≡ false → first ≡ false
first_fails true second is = is
first_fails false second is = refl

flat : (first second third : Bool) → (first && second && third) ≡ ((first && second) && third)
flat true second third = refl
flat false second third = refl

module _ (headers : List Header) (parts : Parts) where
  abbrev code : Code
  code = parts.typed.code

  takes-is : (pc : ℕ) (reference : RefValue) (handler : Handler) → takes headers pc reference handler ≡ (covers handler pc && graphs.takes headers handler.class reference)
  takes-is pc reference handler = by handler.class refl
    where
      by : (class : Option (List ℕ)) → handler.class ≡ class → takes headers pc reference handler ≡ (covers handler pc && graphs.takes headers handler.class reference)
      by None e = rw e (flat (nat_le handler.start pc) (nat_lt pc handler.end) true)
      by (Some class) e = rw e (flat (nat_le handler.start pc) (nat_lt pc handler.end) (is_instance headers reference.class class))

  takes-by : (pc : ℕ) (reference : RefValue) (handler : Handler) (test : Bool) → covers handler pc ≡ test → takes headers pc reference handler ≡ (test && graphs.takes headers handler.class reference)
  takes-by pc reference handler test e = takes-is pc reference handler ∙ ap (λ covered. covered && graphs.takes headers handler.class reference) e

  first-of : (first : Handler) (rest : List Handler) → Contains (first ∷ rest) first
  first-of first rest = Contains-append_left (first ∷ []) rest first (0, omega arith, refl)

  handler-even : (reference : RefValue) (pc start : ℕ) (handlers : List Handler) → ((handler : Handler) → Contains handlers handler → covers handler pc ≡ covers handler start)
      → handler_for headers pc reference handlers ≡ handler_for headers start reference handlers
  handler-even reference pc start [] even = refl
  handler-even reference pc start (first ∷ rest) even =
      ap (λ (taken : Bool). if taken then Some first.target else handler_for headers pc reference rest) (takes-by pc reference first (covers first start) (even first (first-of first rest)) ∙ sym (takes-is start reference first))
      ∙ ap (λ (found : Option ℕ). if takes headers start reference first then Some first.target else found)
      (handler-even reference pc start rest (λ handler has. even handler (Contains-append_right (first ∷ []) rest handler has)))

  -- ---- a block that catches, and one that doesn't

  caught-even : (pc start : ℕ) → ((reference : RefValue) → handler_for headers pc reference code.handlers ≡ handler_for headers start reference code.handlers) → (outcome : Outcome Locals Place)
      → caught headers code pc outcome ≡ caught headers code start outcome
  caught-even pc start even (Is place state) = refl
  caught-even pc start even (Stops (Throws reference) state) = by (handler_for headers start reference code.handlers) (even reference) refl
    where
      by : (found : Option ℕ) → handler_for headers pc reference code.handlers ≡ handler_for headers start reference code.handlers → handler_for headers start reference code.handlers ≡ found
          → caught headers code pc (Stops (Throws reference) state) ≡ caught headers code start (Stops (Throws reference) state)
      by None e is = let same = e ∙ is in rw is (rw same refl)
      by (Some target) e is = let same = e ∙ is in rw is (rw same refl)
  caught-even pc start even (Stops More state) = refl
  caught-even pc start even (Stops Stuck state) = refl

  pub uncaught-stops : (pc : ℕ) (outcome : Outcome Locals Place) → caught headers (uncaught code) pc outcome ≡ outcome
  uncaught-stops pc (Is place state) = refl
  uncaught-stops pc (Stops (Throws reference) state) = refl
  uncaught-stops pc (Stops More state) = refl
  uncaught-stops pc (Stops Stuck state) = refl

  pub step-same : (family : Family) (rest : Instructions) (stack : List Value) (state : State Locals) → step headers local_slots (uncaught code) family rest stack state ≡ step headers local_slots code family rest stack state
  step-same (Strict count operation) rest stack state = refl
  step-same (Moves forms) rest stack state = refl
  step-same (Loads of_kind slot) rest stack state = refl
  step-same (Stores of_kind slot) rest stack state = refl
  step-same (Counts slot by) rest stack state = refl
  step-same (Leads count choice) rest stack state = refl
  step-same (Returns gives) rest stack state = refl
  step-same NotRun rest stack state = refl

  abbrev block_of : Code → Instructions → List Value → State Locals → Outcome Locals Place
  block_of these = block headers local_slots these (is_start parts.starts)

  stepping : (start pc : ℕ) (rest : Instructions) → ((reference : RefValue) → handler_for headers pc reference code.handlers ≡ handler_for headers start reference code.handlers) → (leaves : Bool)
      → (outcome : Outcome Locals Place) → (leaves ≡ false → (next : Instructions) (stack : List Value) (state : State Locals) → outcome ≡ Is (Before next stack) state → block_of code rest stack state ≡ caught headers code start (block_of (uncaught code) rest stack state))
      → stepped headers code pc outcome (if leaves then Is else behind (block_of code rest)) ≡ caught headers code start (stepped headers (uncaught code) pc outcome (if leaves then Is else behind (block_of (uncaught code) rest)))
  stepping start pc rest even true (Is place state) ih = refl
  stepping start pc rest even false (Is (Before next stack) state) ih = ih refl next stack state refl
  stepping start pc rest even false (Is (Returned value) state) ih = refl
  stepping start pc rest even leaves (Stops stop state) ih = caught-even pc start even (Stops stop state) ∙ ap (caught headers code start) (sym (uncaught-stops pc (Stops stop state)))

  block-caught : (start : ℕ) (rest : Instructions) → IsEven headers parts start rest → (stack : List Value) (state : State Locals) → block_of code rest stack state ≡ caught headers code start (block_of (uncaught code) rest stack state)
  block-caught start [] even stack state = refl
  block-caught start (first ∷ rest) even stack state =
      let family = meaning_of headers code.class first.1 in
      let leaves = is_jump family || is_start parts.starts (pc_of rest) in
      stepping start first.0 rest (λ reference. handler-even reference first.0 start code.handlers even.0) leaves (step headers local_slots code family rest stack state)
      (λ on next left after goes. block-caught start rest
      (even.1 (second_fails (is_jump family) (is_start parts.starts (pc_of rest)) on) (record { on = first_fails (is_jump family) (is_start parts.starts (pc_of rest)) on; stack = stack; state = state; next = next; left = left; after = after; is = goes })) left after)
      ∙ ap (λ outcome. caught headers code start (stepped headers (uncaught code) first.0 outcome (if leaves then Is else behind (block_of (uncaught code) rest)))) (sym (step-same family rest stack state))

  -- ---- where a catcher sends it

  -- what is thrown goes to the block of a handler that stands at this offset
  record Sent (start : ℕ) (reference : RefValue) (target : ℕ) (send : Meaning Completion) : Type 0 where
    number : ℕ
    variable : ℕ
    handler : Handler
    has : Contains code.handlers handler
    covered : covers handler start ≡ true
    leads : handler.target ≡ target
    listed : slice_get parts.starts number ≡ Some handler.target
    entry : parts.vars.of number code.max_locals ≡ Some variable
    is : send ≡ (put (local_variable variable) (Some (Ref reference)) >>= λ done. pure (Break number))

  abbrev SentTo : ℕ → RefValue → Option ℕ → Meaning Completion → Type 0
  SentTo start reference None send = send ≡ stop (Throws reference)
  SentTo start reference (Some target) send = Sent start reference target send

  abbrev jump : Catcher → RefValue → Meaning Completion
  jump catcher reference = put (local_variable catcher.variable) (Some (Ref reference)) >>= λ done. pure (Break catcher.target)

  sends : (catchers : List Catcher) (reference : RefValue) (handler : Handler) (number : ℕ) (of : IsCatcherOf parts catchers handler number) (others : RefValue → Meaning Completion)
      → sent_on headers (slice_get catchers number) others reference ≡ (if graphs.takes headers handler.class reference then jump of.catcher reference else others reference)
  sends catchers reference handler number of others =
      ap (λ found. sent_on headers found others reference) of.there
      ∙ ap (λ class. if graphs.takes headers class reference then jump of.catcher reference else others reference) of.class

  chosen : (start : ℕ) (catchers : List Catcher) (reference : RefValue) (handler : Handler) (number : ℕ) (of : IsCatcherOf parts catchers handler number) → Contains code.handlers handler → covers handler start ≡ true
      → (found : Option ℕ) (send : Meaning Completion) → (test : Bool) → (test ≡ false → SentTo start reference found send)
      → SentTo start reference (if test then Some handler.target else found) (if test then jump of.catcher reference else send)
  chosen start catchers reference handler number of has covered found send true other = record {
    number = of.catcher.target;
    variable = of.catcher.variable;
    handler = handler;
    has = has;
    covered = covered;
    leads = refl;
    listed = of.target;
    entry = of.variable;
    is = refl;
  }
  chosen start catchers reference handler number of has covered found send false other = other refl

  sent : (start : ℕ) (catchers : List Catcher) (reference : RefValue) {handlers : List Handler} {numbers : List ℕ} → Catches parts catchers start handlers numbers → ((handler : Handler) → Contains handlers handler → Contains code.handlers handler)
      → SentTo start reference (handler_for headers start reference handlers) (sent_by headers catchers numbers reference)
  sent start catchers reference none_left within = refl
  sent start catchers reference (passes {handler = handler} {handlers = handlers} {numbers = numbers} off rest) within =
      subst (λ (test : Bool). SentTo start reference (if test then Some handler.target else handler_for headers start reference handlers) (sent_by headers catchers numbers reference))
      (sym (takes-by start reference handler false off))
      (sent start catchers reference rest (λ other has. within other (Contains-append_right (handler ∷ []) handlers other has)))
  sent start catchers reference (catches {handler = handler} {handlers = handlers} {number = number} {numbers = numbers} on of rest) within =
      subst (SentTo start reference (if takes headers start reference handler then Some handler.target else handler_for headers start reference handlers)) (sym (sends catchers reference handler number of (sent_by headers catchers numbers)))
      (subst (λ (test : Bool). SentTo start reference (if test then Some handler.target else handler_for headers start reference handlers) (if graphs.takes headers handler.class reference then jump of.catcher reference else sent_by headers catchers numbers reference))
      (sym (takes-by start reference handler true on))
      (chosen start catchers reference handler number of (within handler (first-of handler handlers)) on (handler_for headers start reference handlers) (sent_by headers catchers numbers reference) (graphs.takes headers handler.class reference)
      (λ none. sent start catchers reference rest (λ other has. within other (Contains-append_right (handler ∷ []) handlers other has)))))
  sent start catchers reference (catches_all {handler = handler} {handlers = handlers} {number = number} on all of) within =
      subst (SentTo start reference (if takes headers start reference handler then Some handler.target else handler_for headers start reference handlers)) (sym (sends catchers reference handler number of (sent_by headers catchers [])))
      (subst (λ (test : Bool). SentTo start reference (if test then Some handler.target else handler_for headers start reference handlers) (if graphs.takes headers handler.class reference then jump of.catcher reference else sent_by headers catchers [] reference))
      (sym (takes-by start reference handler true on))
      (chosen start catchers reference handler number of (within handler (first-of handler handlers)) on (handler_for headers start reference handlers) (sent_by headers catchers [] reference) (graphs.takes headers handler.class reference)
      (λ none. absurd (no (sym (ap (λ class. graphs.takes headers class reference) all) ∙ none)))))
    where
      no : true ≡ false → ⊥
      no e = cc

  -- ---- the block of a handler is entered

  module _ (are : AreVars parts.typed parts.starts parts.vars) (says : SaysReferences parts.typed) where
    apart : (one other slot first variable second : ℕ) → parts.vars.of one slot ≡ Some variable → parts.vars.of other first ≡ Some second → variable ≡ second → slot ≡ first
    apart one other slot first variable second named entry same =
        let a = are.of_type one slot variable named in
        let b = are.of_type other first second entry in
        ap (λ (typing : Typing). typing.slot) (are.apart (record { slot = slot; type = a.0 }) (record { slot = first; type = b.0 }) a.1 b.1 (a.2 ∙ same ∙ sym b.2))

    -- the variables in the block where it is caught
    entered-slots : (number start : ℕ) → slice_get parts.starts number ≡ Some start → (reference : RefValue) (locals : Locals) (store : Store) (target : ℕ) (send : Meaning Completion) (to : Sent start reference target send) → (this : Option Value) → AgreesAtThrow parts this number locals store
        → (code_from to.handler.target code.instructions ≡ [] → ⊥) → Stands shapes code (table_of parts.typed) (code_from to.handler.target code.instructions) (Ref reference ∷ []) locals
        → (slot variable : ℕ) → parts.vars.of to.number slot ≡ Some variable → ¬ IsThisSlot code slot
        → IsKept parts.vars.kinds (with_value (local_variable to.variable) (Some (Ref reference)) store) variable (slot_value code (Ref reference ∷ []) locals slot)
    entered-slots number start listed reference locals store target send to this agrees some stands slot variable named not_this = elim (cases_Bool (nat_lt slot code.max_locals)) [
      | inl local ↦ of-local local
      | inr entry ↦ of-entry entry
    ]
      where
        same-local : nat_lt slot code.max_locals ≡ true → slot_value code [] locals slot ≡ slot_value code (Ref reference ∷ []) locals slot
        same-local local = rw local refl

        other : nat_lt slot code.max_locals ≡ true → (test : Bool) → variable == to.variable ≡ test → (if test then Some (Ref reference) else store.variables (local_variable variable)) ≡ store.variables (local_variable variable)
        other local true e = absurd (let less = ltb-true slot code.max_locals local in let same = apart to.number to.number slot code.max_locals variable to.variable named to.entry (eqb-true variable to.variable e) in omega arith)
        other local false e = refl

        of-local : nat_lt slot code.max_locals ≡ true → IsKept parts.vars.kinds (with_value (local_variable to.variable) (Some (Ref reference)) store) variable (slot_value code (Ref reference ∷ []) locals slot)
        of-local local =
            let handled_in : IsCaughtIn parts number to.number = record { start = start; listed = listed; handler = to.handler; has = to.has; covered = to.covered; target = to.listed } in
            let kept = agrees.slots to.number slot variable handled_in (ltb-true slot code.max_locals local) named not_this in
            subst (IsKept parts.vars.kinds (with_value (local_variable to.variable) (Some (Ref reference)) store) variable) (same-local local)
            (record { holds = kept.holds; has = other local (variable == to.variable) refl ∙ kept.has })

        at-top : nat_lt slot code.max_locals ≡ false → IsOfType parts.vars.kinds variable (slot_value code (Ref reference ∷ []) locals slot) → slot ≡ code.max_locals
        at-top entry holds = elim (cases_Bool (slot - code.max_locals == 0)) [
          | inl top ↦ (let zero_there = eqb-true (slot - code.max_locals) 0 top in let most = ltb-false slot code.max_locals entry in omega arith)
          | inr past ↦ absurd (missing past holds.value holds.there)
        ]
          where
            missing : (slot - code.max_locals == 0) ≡ false → (value : Value) → slot_value code (Ref reference ∷ []) locals slot ≡ Some value → ⊥
            missing past value e = gone value (sym (nothing past) ∙ e)
              where
                gone : (value : Value) → None ≡ Some value → ⊥
                gone value e = cc

                nothing : (slot - code.max_locals == 0) ≡ false → slot_value code (Ref reference ∷ []) locals slot ≡ None
                nothing past = rw entry (rw past refl)

        of-top : nat_lt slot code.max_locals ≡ false → slot ≡ code.max_locals → parts.vars.of to.number slot ≡ Some variable → (if variable == to.variable then Some (Ref reference) else store.variables (local_variable variable)) ≡ slot_value code (Ref reference ∷ []) locals slot
        of-top entry e named = rw (itself (alike e named)) (sym (value entry e))
          where
            alike : slot ≡ code.max_locals → parts.vars.of to.number slot ≡ Some variable → variable ≡ to.variable
            alike e named = let there = to.entry in cc

            itself : variable ≡ to.variable → (variable == to.variable) ≡ true
            itself e = subst (λ number. (variable == number) ≡ true) e (same variable)
              where
                same : (number : ℕ) → (number == number) ≡ true
                same number = eq-eqb number number refl

            value : nat_lt slot code.max_locals ≡ false → slot ≡ code.max_locals → slot_value code (Ref reference ∷ []) locals slot ≡ Some (Ref reference)
            value entry e = let none : slot - code.max_locals ≡ 0 = omega arith in rw entry (rw none refl)

        of-entry : nat_lt slot code.max_locals ≡ false → IsKept parts.vars.kinds (with_value (local_variable to.variable) (Some (Ref reference)) store) variable (slot_value code (Ref reference ∷ []) locals slot)
        of-entry entry =
            let holds = named-holds parts.typed parts.starts parts.vars are says to.number to.handler.target to.listed some (Ref reference ∷ []) locals stands slot variable named in
            record { holds = holds; has = of-top entry (at-top entry holds) named }

    comes-handled : (send : RefValue → Meaning Completion) (from : State Locals) (ends : State Store → Outcome Store Completion) (run : Outcome Store Completion) → ((state : State Store) → handled send (ends state) ≡ ends state) → Comes from ends run → Comes from ends (handled send run)
    comes-handled send from ends run same comes = record { after = comes.after; is = ap (handled send) comes.is ∙ same comes.after; world = comes.world }

    thrown : (this : Option Value) (number start : ℕ) → slice_get parts.starts number ≡ Some start → (send : RefValue → Meaning Completion) (reference : RefValue) (state : State Locals) (run : Outcome Store Completion) → Throwing parts this number reference state run
        → ((handler : Handler) → Contains code.handlers handler → code_from handler.target code.instructions ≡ [] → ⊥)
        → (found : Option ℕ) → handler_for headers start reference code.handlers ≡ found → SentTo start reference found (send reference)
        → Leaves parts this number (caught headers code start (Stops (Throws reference) state)) (handled send run)
    thrown this number start listed send reference state run throwing some None e to =
        rw e (record {
          comes = record { after = throwing.comes.after; is = ap (handled send) throwing.comes.is ∙ ap (λ (part : Meaning Completion). part throwing.comes.after) to; world = throwing.comes.world };
          agrees = throwing.agrees;
        })
    thrown this number start listed send reference state run throwing some (Some target) e to =
        rw (e, sym to.leads) (record {
          number = to.number;
          comes = record {
            after = with_store (with_value (local_variable to.variable) (Some (Ref reference))) throwing.comes.after;
            is = ap (handled send) throwing.comes.is ∙ ap (λ (part : Meaning Completion). part throwing.comes.after) to.is;
            world = throwing.comes.world;
          };
          start = to.handler.target;
          listed = to.listed;
          there = refl;
          agrees = λ stands. record {
            slots = entered-slots number start listed reference state.store throwing.comes.after.store target (send reference) to this throwing.agrees (some to.handler to.has) stands;
            itself = throwing.agrees.itself;
            unborn = throwing.agrees.unborn to.number stands.frame (record { start = start; listed = listed; handler = to.handler; has = to.has; covered = to.covered; target = to.listed })
                (begins-at parts.typed parts.starts to.number to.handler.target to.listed (some to.handler to.has) (Ref reference ∷ []) state.store stands);
            parameters = λ instance unborn. record {
              has = λ place slot at.
                  (throwing.agrees.parameters to.number stands.frame (record { start = start; listed = listed; handler = to.handler; has = to.has; covered = to.covered; target = to.listed })
                  (begins-at parts.typed parts.starts to.number to.handler.target to.listed (some to.handler to.has) (Ref reference ∷ []) state.store stands) instance unborn).has place slot at;
            };
          };
        })

    leaves : (this : Option Value) (number start : ℕ) → slice_get parts.starts number ≡ Some start → (catchers : List Catcher) (numbers : List ℕ)
        → ((handler : Handler) → Contains code.handlers handler → code_from handler.target code.instructions ≡ [] → ⊥)
        → (outcome : Outcome Locals Place) → ((reference : RefValue) (after : State Locals) → outcome ≡ Stops (Throws reference) after → SentTo start reference (handler_for headers start reference code.handlers) (sent_by headers catchers numbers reference))
        → (run : Outcome Store Completion) → Leaves parts this number outcome run → Leaves parts this number (caught headers code start outcome) (handled (sent_by headers catchers numbers) run)
    unfolding comes-handled
    leaves this number start listed catchers numbers some (Is (Before rest stack) state) catch run leaving = record {
      number = leaving.number;
      comes = comes-handled (sent_by headers catchers numbers) state (Is (Break leaving.number)) run (λ after. refl) leaving.comes;
      start = leaving.start;
      listed = leaving.listed;
      there = leaving.there;
      agrees = leaving.agrees;
    }
    leaves this number start listed catchers numbers some (Is (Returned value) state) catch run leaving = comes-handled (sent_by headers catchers numbers) state (Is (Return value)) run (λ after. refl) leaving
    leaves this number start listed catchers numbers some (Stops (Throws reference) state) catch run leaving =
        thrown this number start listed (sent_by headers catchers numbers) reference state run leaving some (handler_for headers start reference code.handlers) refl (catch reference state refl)
    leaves this number start listed catchers numbers some (Stops More state) catch run leaving = comes-handled (sent_by headers catchers numbers) state (Stops More) run (λ after. refl) leaving
    leaves this number start listed catchers numbers some (Stops Stuck state) catch run leaving = tt

same-start : {start other : ℕ} → Some start ≡ Some other → start ≡ other
same-start e = cc

sent-somewhere : (headers : List Header) (parts : Parts) (start : ℕ) (catchers : List Catcher) (numbers : List ℕ) → AreCatchers headers parts catchers start numbers → (stack : List Value) (state : State Locals) (reference : RefValue) (after : State Locals)
    → block headers local_slots (uncaught parts.typed.code) (is_start parts.starts) (code_from start parts.typed.code.instructions) stack state ≡ Stops (Throws reference) after
    → SentTo headers parts start reference (handler_for headers start reference parts.typed.code.handlers) (sent_by headers catchers numbers reference)
sent-somewhere headers parts start catchers numbers (as_covered catch) stack state reference after e = sent headers parts start catchers reference catch (λ handler has. has)
sent-somewhere headers parts start catchers numbers (never_throws never) stack state reference after e = absurd (never stack state after reference e)

pub catchers_show : CatchersShow
catchers_show headers parts are says this number start listed even some catchers numbers catch run shows stack state store meets =
    let code = parts.typed.code in
    let from = code_from meets.start code.instructions in
    let source : State Store = record { store = store; world = state.world } in
    let same : start ≡ meets.start = same-start (sym listed ∙ meets.listed) in
    subst (λ outcome. Leaves parts this number outcome (handled (sent_by headers catchers numbers) (run source)))
    (sym (block-caught headers parts start from (subst (λ pc. IsEven headers parts start (code_from pc code.instructions)) same even) stack state))
    (leaves headers parts are says this number start listed catchers numbers some (block headers local_slots (uncaught code) (is_start parts.starts) from stack state)
    (λ reference after e. sent-somewhere headers parts start catchers numbers catch stack state reference after
    (ap (λ pc. block headers local_slots (uncaught code) (is_start parts.starts) (code_from pc code.instructions) stack state) same ∙ e))
    (run source) (shows stack state store meets))
