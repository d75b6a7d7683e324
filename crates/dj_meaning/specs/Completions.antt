-- How statements complete, and how their meanings are put together (JLS 14.1, 14.7, 14.12 to 14.20).
use Rattle.std.specs.Prelude.{ℕ, zero, suc, ◌==◌, Bool, false, List, [], ◌∷◌, Option, Some, None, if◌then◌else◌}
use Rattle.dj_names.specs.declared.header.Header.{Header}
use Rattle.dj_names.specs.Types.{JType}
use Rattle.dj_values.specs.Values.{RefValue, Value, Enter, Exit}
use Rattle.dj_values.specs.Deciding.{is_throwable}
use Rattle.dj_values.specs.Outcomes.{Throws, More, Stuck, Halts, ask, Outcome, Is, Stops, bind, outside}
use Rattle.dj_meaning.specs.Objects.{with_object}
use Rattle.dj_meaning.specs.StaticTypes.{Context}
use Rattle.dj_meaning.specs.Runs.{Store, Meaning, pure, stop, stuck, ◌>>=◌, with_store, fitted}
use Rattle.dj_meaning.specs.Expressions.{either}

-- how a statement completes: it goes on; it jumps to a label; it returns, with a value or without one; or it returns otherwise than its method does
pub data Completion : Type 0 where
  Normal : Completion
  Break : ℕ → Completion
  Continue : ℕ → Completion
  Return : Option Value → Completion
  Misfit : Completion

-- ---- one after another

-- what stands behind a statement runs where that completes normally
abbrev pub sequence : Meaning Completion → Completion → Meaning Completion
sequence next Normal = next
sequence next (Break label) = pure (Break label)
sequence next (Continue label) = pure (Continue label)
sequence next (Return result) = pure (Return result)
sequence next Misfit = pure Misfit

-- one break leads to this, the others stay
abbrev pub instead : ℕ → Meaning Completion → ℕ → Meaning Completion
instead own next label = if label == own then next else pure (Break label)

-- a labelled statement takes the breaks to its label; a continue of it that leaves the statement is none of a loop (14.7, 14.16)
abbrev pub taken : ℕ → Completion → Meaning Completion
taken own Normal = pure Normal
taken own (Break label) = instead own (pure Normal) label
taken own (Continue label) = if label == own then stuck else pure (Continue label)
taken own (Return result) = pure (Return result)
taken own Misfit = pure Misfit

-- ---- loops

-- a label is the one right before a statement
abbrev pub is_own : Option ℕ → ℕ → Bool
is_own None label = false
is_own (Some own) label = label == own

-- the next turn of a loop: behind a body that completes normally, or by a continue of the loop's label
abbrev pub next_turn : Option ℕ → Meaning Completion → Completion → Meaning Completion
next_turn own again Normal = again
next_turn own again (Break label) = pure (Break label)
next_turn own again (Continue label) = if is_own own label then again else pure (Continue label)
next_turn own again (Return result) = pure (Return result)
next_turn own again Misfit = pure Misfit

-- `while`, and `for` with its step: at most so many turns of the body, each behind its test (14.12, 14.14.1)
abbrev pub turns : ℕ → Option ℕ → Meaning Bool → Meaning (Unit {0}) → Meaning Completion → Meaning Completion
turns zero own test step body = test >>= λ answer. either answer (stop More) (pure Normal)
turns (suc bound) own test step body =
    test >>= λ answer. either answer (body >>= next_turn own (step >>= λ done. turns bound own test step body)) (pure Normal)

-- `do`: the body comes first (14.13)
abbrev pub do_turns : ℕ → Option ℕ → Meaning Bool → Meaning Completion → Meaning Completion
do_turns zero own test body = stop More
do_turns (suc bound) own test body =
    body >>= next_turn own (test >>= λ answer. either answer (do_turns bound own test body) (pure Normal))

-- ---- exceptions

-- a reference that is thrown: null traps, and what is no exception is ruled out (14.18)
abbrev pub thrown : Context → Value → Meaning Completion
thrown context value =
    outside context.headers (with_object value (λ reference. Halts (if is_throwable context.headers reference then Throws reference else Stuck)))

-- what is thrown goes to a handler
abbrev pub handled : (RefValue → Meaning Completion) → Outcome Store Completion → Outcome Store Completion
handled handler (Is completion state) = Is completion state
handled handler (Stops (Throws reference) state) = handler reference state
handled handler (Stops More state) = Stops More state
handled handler (Stops Stuck state) = Stops Stuck state

-- the last part of a `try` runs however the first one completes, and hides that where it doesn't complete normally (14.20.2)
abbrev pub finished : Meaning Completion → Outcome Store Completion → Outcome Store Completion
finished last (Is completion state) = bind (last state) (sequence (pure completion))
finished last (Stops (Throws reference) state) = bind (last state) (sequence (stop (Throws reference)))
finished last (Stops More state) = Stops More state
finished last (Stops Stuck state) = Stops Stuck state

-- ---- monitors (14.19)

-- a store with these monitors held
abbrev pub with_held : List RefValue → Store → Store
with_held held store = record { variables = store.variables; held = held }

-- the innermost of these monitors is left, the others are held, and then comes this
abbrev pub left_by : List Header → Meaning Completion → List RefValue → Meaning Completion
left_by headers next [] = next
left_by headers next (monitor ∷ rest) = λ state. bind (outside headers (ask (Exit monitor)) (with_store (with_held rest) state)) (λ done. next)

-- the innermost monitor that is held is left, and then comes this
abbrev pub exited : List Header → Meaning Completion → Meaning Completion
exited headers next = λ state. left_by headers next state.store.held state

-- a part leaves the monitor that it was entered with, however it completes
abbrev pub released : List Header → Outcome Store Completion → Outcome Store Completion
released headers (Is completion state) = exited headers (pure completion) state
released headers (Stops (Throws reference) state) = exited headers (stop (Throws reference)) state
released headers (Stops More state) = Stops More state
released headers (Stops Stuck state) = Stops Stuck state

-- a monitor is held besides
abbrev pub held_besides : RefValue → Meaning (Unit {0})
held_besides monitor state = Is tt (with_store (with_held (monitor ∷ state.store.held)) state)

-- a monitor is entered and held
abbrev pub entered_on : List Header → RefValue → Meaning (Unit {0})
entered_on headers monitor = outside headers (ask (Enter monitor)) >>= λ done. held_besides monitor

-- a part that holds a monitor
abbrev pub holding : List Header → RefValue → Meaning Completion → Meaning Completion
holding headers monitor body = entered_on headers monitor >>= λ done state. released headers (body state)

-- ---- returns

-- a return without a value, given the method's result (14.17)
abbrev pub returns_nothing : Option JType → Meaning Completion
returns_nothing None = pure (Return None)
returns_nothing (Some type) = pure Misfit

-- a return of a value, converted to the method's result (14.17, 5.2)
abbrev pub returns_value : Context → Option JType → Value → Meaning Completion
returns_value context None value = pure Misfit
returns_value context (Some type) value = fitted context.headers type value >>= λ result. pure (Return (Some result))
